-- What follows from how a call ends.
use Rattle.std.proofs.Common.{◌≡◌, inl, inr, ℕ, ◌<◌, ◌≤◌, List, length, refl, subst, arith}
use Rattle.scj_base.specs.declared.statuses.Status.{Status}
use Rattle.scj_io.specs.Loads.{Held, ShelfRun, MayHold, MayExceed}
use Rattle.scj_io.specs.Loads.Held.{Reported}
use Rattle.scj_cli.specs.Endings.{Call, IsAmong, IsReached, MayStand, Ends, AreReported, IsExact, IsLongExactly, IsNeverAbsent}
use Rattle.scj_cli.specs.Endings.IsAmong.{here, later}
use Rattle.scj_cli.specs.Endings.IsReached.{first as reached_first, behind}
use Rattle.scj_cli.specs.Endings.MayStand.{none as no_file, next as next_file}
use Rattle.scj_cli.specs.Endings.AreReported.{none as none_reported, next as next_reported}
use Rattle.scj_cli.specs.Endings.Comes.{answered, unread, overlong, out_of_memory}
use Rattle.scj_cli.specs.Endings.Ends.{whole, fault_of_out, fault_of_err, cut_short, cut_short_unreported}
use Rattle.scj_cli.specs.Endings.EndsBy.{by_answer, by_memory, by_memory_in_run}

-- what is reached is one of the names
among_of : {held : List ℕ → Held} {limits : List ℕ → ℕ} {name : List ℕ} {names : List (List ℕ)} →
    IsReached held limits name names →
    IsAmong name names
among_of reached_first = here
among_of (behind content holds within rest) = later (among_of rest)

-- contents that may stand under names whose contents are told are these
stand_reported : {shelf : ShelfRun} {limits : List ℕ → ℕ} {names contents reported : List (List ℕ)} →
    MayStand shelf limits names contents → AreReported shelf.held limits names reported → contents ≡ reported
stand_reported no_file none_reported = refl
stand_reported (next_file {content = content} holds within rest) (next_reported {content = known} is known_within others) =
    let same : content ≡ known = subst (λ (held : Held). MayHold held content) is holds in
    rw (same, stand_reported rest others) refl

-- what is told of one of the names
reported_of : {held : List ℕ → Held} {limits : List ℕ → ℕ} {name : List ℕ} {names contents : List (List ℕ)} →
    IsAmong name names → AreReported held limits names contents →
    (content : List ℕ) × (held name ≡ Reported content) × (length content ≤ limits name)
reported_of here (next_reported is within others) = (_, is, within)
reported_of (later among) (next_reported is within others) = reported_of among others

-- what may stand under one of the names
stands_of : {shelf : ShelfRun} {limits : List ℕ → ℕ} {name : List ℕ} {names contents : List (List ℕ)} →
    IsAmong name names → MayStand shelf limits names contents →
    (content : List ℕ) × MayHold (shelf.held name) content × (length content ≤ limits name)
stands_of here (next_file holds within rest) = (_, holds, within)
stands_of (later among) (next_file holds within rest) = stands_of among rest

-- bytes within the limit are not beyond it
not_long : (held : Held) (limit : ℕ) (content : List ℕ) → held ≡ Reported content → length content ≤ limit →
    MayExceed held limit → ⊥
not_long held limit content is within exceeds = let long : limit < length content =
    subst (λ (h : Held). MayExceed h limit) is exceeds in omega arith

not_short : (held : Held) (limit : ℕ) (content known : List ℕ) → held ≡ Reported known → MayHold held content →
    length content ≤ limit → limit < length known → ⊥
not_short held limit content known is holds within long =
    let same : content ≡ known = subst (λ (h : Held). MayHold h content) is holds in
    let short : length known ≤ limit = subst (λ (c : List ℕ). length c ≤ limit) same within in omega arith

pub exact : (call : Call) (status : Status) → Ends call status → IsExact call status
exact call status (whole (answered stands answer) out err) contents reported calm =
    by_answer (rw (← stand_reported stands reported) answer) out err
exact call status (whole (unread reached fault) out err) contents reported calm =
    absurd (calm.files _ (among_of reached) fault)
exact call status (whole (overlong reached exceeds beyond) out err) contents reported calm = let known =
    reported_of (among_of reached) reported in absurd (not_long _ _ known.0 known.1 known.2 exceeds)
exact call status (whole out_of_memory out err) contents reported calm = by_memory out err
exact call status (fault_of_out comes out err) contents reported calm = absurd (calm.out out.rose)
exact call status (fault_of_err comes out err) contents reported calm = absurd (calm.err err.rose)
exact call status (cut_short stands cut err) contents reported calm =
    by_memory_in_run (rw (← stand_reported stands reported) cut) err
exact call status (cut_short_unreported stands cut err) contents reported calm = absurd (calm.err err.rose)

pub long_exactly : (call : Call) (status : Status) → Ends call status → IsLongExactly call status
long_exactly call status (whole (answered stands answer) out err) name content among is long calm = let stood =
    stands_of among stands in absurd (not_short _ _ stood.0 content is stood.1 stood.2 long)
long_exactly call status (whole (unread other fault) out err) name content among is long calm =
    absurd (calm.files _ (among_of other) fault)
long_exactly call status (whole (overlong other exceeds beyond) out err) name content among is long calm = inl refl
long_exactly call status (whole out_of_memory out err) name content among is long calm = inr refl
long_exactly call status (fault_of_out comes out err) name content among is long calm = absurd (calm.out out.rose)
long_exactly call status (fault_of_err comes out err) name content among is long calm = absurd (calm.err err.rose)
long_exactly call status (cut_short stands cut err) name content among is long calm = inr refl
long_exactly call status (cut_short_unreported stands cut err) name content among is long calm =
    absurd (calm.err err.rose)

pub never_absent : (call : Call) (status : Status) → Ends call status → IsNeverAbsent call status
never_absent call status (whole (answered stands answer) out err) name among is = let stood = stands_of among stands in
    absurd (subst (λ (h : Held). MayHold h stood.0) is stood.1)
never_absent call status (whole (unread other fault) out err) name among is = tt
never_absent call status (whole (overlong other exceeds beyond) out err) name among is = tt
never_absent call status (whole out_of_memory out err) name among is = tt
never_absent call status (fault_of_out comes out err) name among is = tt
never_absent call status (fault_of_err comes out err) name among is = tt
never_absent call status (cut_short stands cut err) name among is = tt
never_absent call status (cut_short_unreported stands cut err) name among is = tt
