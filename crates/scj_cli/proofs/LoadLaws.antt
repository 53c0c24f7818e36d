-- Loads one after another.
use Rattle.std.proofs.Common.{◌≡◌, ℕ, zero, suc, ◌+◌, ◌<◌, ◌≤◌, List, [], ◌∷◌, ◌++◌, length, map, take, get_or, true, bytes_eq, refl, sym, ap, ◌∙◌, subst, arith}
use Rattle.std.proofs.lemmas.Slice.Eq.{bytes_eq-Decides}
use Rattle.std.proofs.lemmas.List.{length-map, map-append, map_more, length_push}
use Rattle.scj_io.specs.Loads.{Held, ShelfRun, shelf_run, ShelfGoes, MayHold, MayExceed, LoadHolds}
use Rattle.scj_io.proofs.CounterLaws.{Rose-earlier}
use Rattle.scj_check.specs.Texts.{texts_of}
use Rattle.scj_cli.specs.Jobs.{file_limit, audit_limits}
use Rattle.scj_cli.specs.Endings.{IsReached, MayStand}
use Rattle.scj_cli.specs.Endings.IsReached.{first as reached_first, behind}
use Rattle.scj_cli.specs.Endings.MayStand.{none, next}
use Rattle.scj_cli.specs.Refusals.{RefusesLoad, RefusesLoads}
use Rattle.scj_cli.specs.declared.refusals.Refusal.{Refusal}
use Rattle.scj_cli.specs.declared.refusals.Refusal.TheVariants.{Usage, Unread, Overlong, Unplanned, OutOfMemory}

pub MayStand-more : {shelf : ShelfRun} {limits : List ℕ → ℕ} {names contents : List (List ℕ)} →
    MayStand shelf limits names contents → (name content : List ℕ) → MayHold (shelf.held name) content →
    length content ≤ limits name → MayStand shelf limits (names ++ name ∷ []) (contents ++ content ∷ [])
MayStand-more none name content holds within = next holds within none
MayStand-more (next first short rest) name content holds within =
    next first short (MayStand-more rest name content holds within)

pub goes_by : (held : List ℕ → Held) (faults most : List ℕ → ℕ) → ShelfGoes held held faults faults most most
goes_by held faults most = record { held = λ name. refl; faults = λ name. omega arith; most = λ name. omega arith }

pub goes_then : (a b c : List ℕ → Held) (f g h k m n : List ℕ → ℕ) → ShelfGoes a b f g k m → ShelfGoes b c g h m n →
    ShelfGoes a c f h k n
goes_then a b c f g h k m n one two = record {
  held = λ name. two.held name ∙ one.held name;
  faults = λ name. let x = one.faults name in let y = two.faults name in omega arith;
  most = λ name. let x = one.most name in let y = two.most name in omega arith;
}

-- the loads get to the file of this number, where those before it were loaded
pub reached_at : {X : Type 0} {limits : List ℕ → ℕ} (shelf : ShelfRun) (f : X → List ℕ) (xs : List X) (k : ℕ) (d : X)
    (contents : List (List ℕ)) → k < length xs → MayStand shelf limits (map f (take k xs)) contents →
    IsReached shelf.held limits (f (get_or xs k d)) (map f xs)
reached_at shelf f [] k d contents within stands = absurd (omega (arith, within))
reached_at shelf f (x ∷ xs) zero d contents within stands = reached_first
reached_at shelf f (x ∷ xs) (suc k) d _ within (next holds short rest) =
    behind _ holds short (reached_at shelf f xs k d _ (omega (arith, within)) rest)

-- a load that was refused after others that weren't
pub refused_later : {limits : List ℕ → ℕ} (held held_then : List ℕ → Held)
    (faults faults_then faults_after most most_then most_after : List ℕ → ℕ) (names : List (List ℕ)) (name : List ℕ)
    (refusal : Refusal) → ShelfGoes held held_then faults faults_then most most_then →
    IsReached held limits name names →
    RefusesLoad (shelf_run held_then faults_then faults_after most_after) (limits name) name refusal →
    RefusesLoads (shelf_run held faults faults_after most_after) limits names refusal
refused_later held held_then faults faults_then faults_after most most_then most_after names name Usage goes reached
    refuses = absurd refuses
refused_later held held_then faults faults_then faults_after most most_then most_after names name
    (Unread line) goes reached refuses = (name, reached, (Rose-earlier _ _ _ (goes.faults name) refuses.0, refuses.1))
refused_later {limits} held held_then faults faults_then faults_after most most_then most_after names name
    (Overlong line) goes reached refuses =
    (name, reached, (subst (λ (h : Held). MayExceed h (limits name)) (goes.held name) refuses.0, refuses.1, refuses.2))
refused_later held held_then faults faults_then faults_after most most_then most_after names name
    (Unplanned line) goes reached refuses = absurd refuses
refused_later held held_then faults faults_then faults_after most most_then most_after names name OutOfMemory goes
    reached refuses = tt

-- one file more was loaded
pub stands_more : {X : Type 0} {limits : List ℕ → ℕ} (shelf : ShelfRun) (f : X → List ℕ) (names : List X) (k : ℕ)
    (d : X) (sources grown : List (List ℕ × List ℕ)) (name bytes : List ℕ) → k < length names →
    MayStand shelf limits (map f (take k names)) (texts_of sources) → grown ≡ sources ++ (name, bytes) ∷ [] →
    MayHold (shelf.held (f (get_or names k d))) bytes → length bytes ≤ limits (f (get_or names k d)) →
    MayStand shelf limits (map f (take (k + 1) names)) (texts_of grown)
stands_more shelf f names k d sources grown name bytes within stands is holds short =
    rw (map_more f names k d within, is, map-append (λ s. s.1) sources ((name, bytes) ∷ []))
    (MayStand-more stands (f (get_or names k d)) bytes holds short)

pub one_more_source : (sources grown : List (List ℕ × List ℕ)) (source : List ℕ × List ℕ) (k : ℕ) → grown ≡ sources
    ++ source ∷ [] → length sources ≡ k → length grown ≡ k + 1
one_more_source sources grown source k is count = ap length is ∙ (length_push sources source ∙ ap (λ n. n + 1) count)

-- what a later load gave is what stood there at first
pub held_first : (held held_then : List ℕ → Held) (faults faults_then most most_then : List ℕ → ℕ)
    (name content : List ℕ) → ShelfGoes held held_then faults faults_then most most_then →
    MayHold (held_then name) content → MayHold (held name) content
held_first held held_then faults faults_then most most_then name content goes holds =
    subst (λ (h : Held). MayHold h content) (goes.held name) holds

-- ---- one file alone

pub stands_alone : {shelf : ShelfRun} {limits : List ℕ → ℕ} {name bytes : List ℕ} →
    LoadHolds shelf name (limits name) bytes → MayStand shelf limits (name ∷ []) (bytes ∷ [])
stands_alone loaded = next loaded.content loaded.within none

pub refused_alone : (shelf : ShelfRun) (limits : List ℕ → ℕ) (name : List ℕ) (refusal : Refusal) →
    RefusesLoad shelf (limits name) name refusal → RefusesLoads shelf limits (name ∷ []) refusal
refused_alone shelf limits name Usage refuses = absurd refuses
refused_alone shelf limits name (Unread line) refuses = (name, reached_first, refuses)
refused_alone shelf limits name (Overlong line) refuses = (name, reached_first, refuses)
refused_alone shelf limits name (Unplanned line) refuses = absurd refuses
refused_alone shelf limits name OutOfMemory refuses = tt

-- ---- the files of a run: its sources, and then the plan's

pub stand_count : {shelf : ShelfRun} {limits : List ℕ → ℕ} {names contents : List (List ℕ)} →
    MayStand shelf limits names contents → length contents ≡ length names
stand_count none = refl
stand_count (next holds short rest) = ap suc (stand_count rest)

-- as many sources as names
pub source_count : {X : Type 0} {shelf : ShelfRun} {limits : List ℕ → ℕ} (f : X → List ℕ) (names : List X)
    (sources : List (List ℕ × List ℕ)) → MayStand shelf limits (map f names) (texts_of sources) →
    length sources ≡ length names
source_count f names sources stands =
    sym (length-map sources (λ s. s.1)) ∙ (stand_count stands ∙ length-map names f)

-- what stood there at first stands there, whatever was counted since
stand_later : {held : List ℕ → Held} {limits faults now later most most_later : List ℕ → ℕ}
    {names contents : List (List ℕ)} → MayStand (shelf_run held faults now most) limits names contents →
    MayStand (shelf_run held faults later most_later) limits names contents
stand_later none = none
stand_later (next holds short rest) = next holds short (stand_later rest)

pub stand_with_plan : {held held_then : List ℕ → Held}
    {limits faults faults_then faults_after most most_then most_after : List ℕ → ℕ} {names contents : List (List ℕ)}
    {plan bytes : List ℕ} → ShelfGoes held held_then faults faults_then most most_then →
    MayStand (shelf_run held faults faults_then most_then) limits names contents →
    LoadHolds (shelf_run held_then faults_then faults_after most_after) plan (limits plan) bytes →
    MayStand (shelf_run held faults faults_after most_after) limits (names ++ plan ∷ []) (contents ++ bytes ∷ [])
stand_with_plan {plan = plan} {bytes = bytes} goes stands loaded =
    MayStand-more (stand_later stands) plan bytes (held_first _ _ _ _ _ _ plan bytes goes loaded.content) loaded.within

reached_behind : {shelf : ShelfRun} {limits : List ℕ → ℕ} {names contents : List (List ℕ)} →
    MayStand shelf limits names contents → (name : List ℕ) → IsReached shelf.held limits name (names ++ name ∷ [])
reached_behind none name = reached_first
reached_behind (next holds short rest) name = behind _ holds short (reached_behind rest name)

-- the load of the plan was refused, behind those of the sources
pub refused_behind : {held held_then : List ℕ → Held}
    {limits faults faults_then most most_then : List ℕ → ℕ} {names contents : List (List ℕ)}
    (faults_after most_after : List ℕ → ℕ) (plan : List ℕ) (refusal : Refusal) →
    ShelfGoes held held_then faults faults_then most most_then →
    MayStand (shelf_run held faults faults_then most_then) limits names contents →
    RefusesLoad (shelf_run held_then faults_then faults_after most_after) (limits plan) plan refusal →
    RefusesLoads (shelf_run held faults faults_after most_after) limits (names ++ plan ∷ []) refusal
refused_behind faults_after most_after plan refusal goes stands refuses =
    refused_later _ _ _ _ faults_after _ _ most_after _ plan refusal goes (reached_behind stands plan) refuses

reached_among_more : {held : List ℕ → Held} {limits : List ℕ → ℕ} {name : List ℕ} {names : List (List ℕ)} →
    IsReached held limits name names → (more : List (List ℕ)) → IsReached held limits name (names ++ more)
reached_among_more reached_first more = reached_first
reached_among_more (behind content holds within rest) more =
    behind content holds within (reached_among_more rest more)

-- the load of a source was refused
pub refused_before : (shelf : ShelfRun) (limits : List ℕ → ℕ) (names more : List (List ℕ)) (refusal : Refusal) →
    RefusesLoads shelf limits names refusal → RefusesLoads shelf limits (names ++ more) refusal
refused_before shelf limits names more Usage refuses = absurd refuses
refused_before shelf limits names more (Unread line) refuses =
    (refuses.0, reached_among_more refuses.1 more, refuses.2)
refused_before shelf limits names more (Overlong line) refuses =
    (refuses.0, reached_among_more refuses.1 more, refuses.2)
refused_before shelf limits names more (Unplanned line) refuses = absurd refuses
refused_before shelf limits names more OutOfMemory refuses = tt

-- ---- the files of an audit

-- the plan's limit is that of a plan
plan_limit : (plan : List ℕ) → audit_limits plan plan ≡ file_limit
plan_limit plan = let same : bytes_eq plan plan ≡ true = (bytes_eq-Decides plan plan).1 refl in rw same refl

pub plan_within : {shelf : ShelfRun} {plan bytes : List ℕ} → LoadHolds shelf plan file_limit bytes →
    LoadHolds shelf plan (audit_limits plan plan) bytes
plan_within {shelf} {plan} {bytes} loaded =
    subst (λ (limit : ℕ). LoadHolds shelf plan limit bytes) (sym (plan_limit plan)) loaded

pub plan_refused : (shelf : ShelfRun) (plan : List ℕ) (refusal : Refusal) →
    RefusesLoad shelf file_limit plan refusal → RefusesLoad shelf (audit_limits plan plan) plan refusal
plan_refused shelf plan refusal refuses =
    subst (λ (limit : ℕ). RefusesLoad shelf limit plan refusal) (sym (plan_limit plan)) refuses
