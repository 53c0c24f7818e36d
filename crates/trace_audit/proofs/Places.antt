-- The places that handlers have for their releases are where releases of their names stand.
use Rattle.std.proofs.Common.{◌≡◌, ℕ, ◌<◌, ◌==◌, Bool, true, false, List, [], ◌∷◌, length, get_or, Option, None, Some, refl, sym, ap, ◌∙◌, subst, arith}
use Rattle.std.specs.Prelude.{slice_get, slice_set, option_map, position}
use Rattle.std.proofs.lemmas.Bool.Decides.{nat_tests}
use Rattle.std.proofs.lemmas.List.Quantifiers.{position-Some}
use Rattle.std.proofs.lemmas.Option.{slice_get_within, slice_get-get_or}
use Rattle.scj_rules.specs.Words.{holds}
use Rattle.scj_model.specs.State.{changed}
use Rattle.accepted_laws.proofs.Lists.{get_set_other, get_set_same}
use Rattle.accepted_laws.proofs.Positions.{position_least}
use Rattle.accepted_laws.proofs.Tools.{some_inj}
use Rattle.trace_audit.specs.declared.handlers.Handler.{Handler}
use Rattle.trace_audit.specs.declared.releases.Release.{Release}
use Rattle.trace_audit.specs.declared.releases.Standing.{Standing}
use Rattle.trace_audit.specs.declared.releases.Standing.TheVariants.{Waits, Started, Gone}
use Rattle.trace_audit.specs.Replay.{Releases, is_named, is_waiting, index_of, release_named, restanding}
use Rattle.trace_audit.specs.Index.{HasIndices, all_seen, index_kept, standing_named}

-- ---- positions

position_once : {A : Type 0} (test : A → Bool) (xs : List A) (k : ℕ) (x : A) → slice_get xs k ≡ Some x →
    test x ≡ true → ((j : ℕ) (y : A) → slice_get xs j ≡ Some y → test y ≡ true → j ≡ k) → position test xs ≡ Some k
position_once test xs k x there passes once =
    let least = position_least test xs k x there passes in
    let at = position-Some test xs least.0 x least.1 in
    let same : least.0 ≡ k =
    once least.0 (get_or xs least.0 x) (slice_get-get_or xs least.0 x at.0) at.1 in
    least.1 ∙ ap (λ (n : ℕ). Some n) same

position_nowhere : {A : Type 0} (test : A → Bool) (xs : List A) →
    ((j : ℕ) (y : A) → slice_get xs j ≡ Some y → test y ≡ true → ⊥) → position test xs ≡ None
position_nowhere {A} test xs nobody = go (position test xs) refl
  where
    go : (o : Option ℕ) → position test xs ≡ o → position test xs ≡ None
    go None e = e
    go (Some j) e = absurd (by_head xs nobody e)
      where
        by_head : (ys : List A) → ((j : ℕ) (y : A) → slice_get ys j ≡ Some y → test y ≡ true → ⊥) →
            position test ys ≡ Some j → ⊥
        by_head [] none f = cc (f)
        by_head (y ∷ ys) none f =
            let at = position-Some test (y ∷ ys) j y f in
            none j (get_or (y ∷ ys) j y) (slice_get-get_or (y ∷ ys) j y at.0) at.1

-- ---- the place of a name

same_names : (handler number : ℕ) (r : Release) → is_named handler number r ≡ true →
    (r.handler ≡ handler) × (r.number ≡ number)
same_names handler number r h = (grind (arith, nat_tests, h), grind (arith, nat_tests, h))

named_so : (r : Release) → is_named r.handler r.number r ≡ true
named_so r = grind (arith, nat_tests)

record Holding (releases : List Release) (handler number index : ℕ) : Type 0 where
  release : Release
  there : slice_get releases index ≡ Some release
  named : is_named handler number release ≡ true

holding : (releases : List Release) (handler number index : ℕ) →
    holds (slice_get releases index) (is_named handler number) ≡ true → Holding releases handler number index
holding releases handler number index h = go (slice_get releases index) refl h
  where
    go : (o : Option Release) → slice_get releases index ≡ o → holds o (is_named handler number) ≡ true →
        Holding releases handler number index
    go None e f = absurd (cc (f))
    go (Some r) e f = record { release = r; there = e; named = f }

-- where a release has these names, its place is kept under them
kept_named : (handlers : List Handler) (releases : List Release) → HasIndices handlers releases →
    (handler number j : ℕ) (r : Release) → slice_get releases j ≡ Some r → is_named handler number r ≡ true →
    index_kept handlers handler number ≡ Some j
kept_named handlers releases has handler number j r there named =
    let names = same_names handler number r named in
    subst (λ (h : ℕ). index_kept handlers h number ≡ Some j) names.0
    (subst (λ (n : ℕ). index_kept handlers r.handler n ≡ Some j) names.1 (has.kept j r there))

pub place_is_kept : (handlers : List Handler) (releases : List Release) → HasIndices handlers releases →
    (handler number : ℕ) → index_of releases handler number ≡ index_kept handlers handler number
place_is_kept handlers releases has handler number = go (index_kept handlers handler number) refl
  where
    go : (o : Option ℕ) → index_kept handlers handler number ≡ o →
        index_of releases handler number ≡ index_kept handlers handler number
    go None e =
        position_nowhere (is_named handler number) releases
        (λ j r there named.
        let k = kept_named handlers releases has handler number j r there named in
        cc (k, e)) ∙ sym e
    go (Some index) e =
        let here = holding releases handler number index (has.right handler number index e) in
        position_once (is_named handler number) releases index here.release here.there here.named
        (λ j r there named.
        let k = kept_named handlers releases has handler number j r there named in
        some_inj j index (sym k ∙ e)) ∙ sym e

-- ---- a release that stands otherwise

pub places_restood : (handlers : List Handler) (releases : List Release) (index : ℕ) (r : Release) (s : Standing) →
    HasIndices handlers releases → slice_get releases index ≡ Some r →
    HasIndices handlers (slice_set releases index (record r { standing = s }))
places_restood handlers releases index r s has there =
    let changed : Release = record r { standing = s } in
    record { kept = λ p t e. kept p t e; right = λ h n p e. right h n p e }
  where
    within : index < length releases
    within = slice_get_within releases index r there

    same_place : (p : ℕ) → p ≡ index → slice_get (slice_set releases index (record r { standing = s })) p
        ≡ Some (record r { standing = s })
    same_place p e =
        ap (slice_get (slice_set releases index (record r { standing = s }))) e
        ∙ get_set_same releases index (record r { standing = s }) within

    kept : (p : ℕ) (t : Release) → slice_get (slice_set releases index (record r { standing = s })) p ≡ Some t →
        index_kept handlers t.handler t.number ≡ Some p
    kept p t e = by_place (p == index) refl
      where
        by_place : (b : Bool) → (p == index) ≡ b → index_kept handlers t.handler t.number ≡ Some p
        by_place true f =
            let q : p ≡ index = grind (arith, nat_tests, f) in
            let same : record r { standing = s } ≡ t =
            some_inj (record r { standing = s }) t (sym (same_place p q) ∙ e) in
            subst (λ (u : Release). index_kept handlers u.handler u.number ≡ Some p) same
            (has.kept index r there ∙ ap (λ (n : ℕ). Some n) (sym q))
        by_place false f =
            let q : index ≡ p → ⊥ = λ g. (let h : p ≡ index = sym g in grind (arith, nat_tests, f, h)) in
            has.kept p t (sym (get_set_other releases index p (record r { standing = s }) q) ∙ e)

    right : (h n p : ℕ) → index_kept handlers h n ≡ Some p →
        holds (slice_get (slice_set releases index (record r { standing = s })) p) (is_named h n) ≡ true
    right h n p e = by_place (p == index) refl
      where
        by_place : (b : Bool) → (p == index) ≡ b →
            holds (slice_get (slice_set releases index (record r { standing = s })) p) (is_named h n) ≡ true
        by_place true f =
            let q : p ≡ index = grind (arith, nat_tests, f) in
            ap (λ (o : Option Release). holds o (is_named h n)) (same_place p q)
            ∙ (sym (ap (λ (o : Option Release). holds o (is_named h n)) (ap (slice_get releases) q ∙ there))
            ∙ has.right h n p e)
        by_place false f =
            let q : index ≡ p → ⊥ = λ g. (let h : p ≡ index = sym g in grind (arith, nat_tests, f, h)) in
            ap (λ (o : Option Release). holds o (is_named h n))
            (get_set_other releases index p (record r { standing = s }) q)
            ∙ has.right h n p e

-- ---- standings by names

abbrev release_in : List Release → Option ℕ → Option Release
release_in releases o = elim o as (λ _. Option Release) [ None ↦ None | Some index ↦ slice_get releases index ]

module _ (handlers : List Handler) (releases : List Release) (has : HasIndices handlers releases)
    (handler number : ℕ) where
  named_by : (o : Option ℕ) → index_kept handlers handler number ≡ o →
      release_named releases handler number ≡ release_in releases o
  named_by o e = ap (release_in releases) (place_is_kept handlers releases has handler number ∙ e)

  pub standing_nowhere : index_kept handlers handler number ≡ None →
      standing_named (all_seen handlers releases) handler number ≡ None
  standing_nowhere e = ap (option_map (λ (r : Release). r.standing)) (named_by None e)

  pub standing_at : (index : ℕ) (o : Option Release) → index_kept handlers handler number ≡ Some index →
      slice_get releases index ≡ o → standing_named (all_seen handlers releases) handler number
      ≡ option_map (λ (r : Release). r.standing) o
  standing_at index o e f = ap (option_map (λ (r : Release). r.standing)) (named_by (Some index) e ∙ f)

  releases_by : (change : Standing → Standing) (o : Option ℕ) → List Release
  releases_by change o =
      elim o as (λ _. List Release) [
        | None ↦ releases
        | Some index ↦ changed (λ r. record r { standing = change r.standing }) index releases
      ]

  abbrev with_releases : List Release → Releases
  with_releases rs = all_seen handlers rs

  restanding_by : (change : Standing → Standing) (o : Option ℕ) → index_kept handlers handler number ≡ o →
      restanding change handler number (all_seen handlers releases) ≡ with_releases (releases_by change o)
  unfolding releases_by
  restanding_by change o e =
      ap (λ (x : Option ℕ). with_releases (releases_by change x))
      (place_is_kept handlers releases has handler number ∙ e)

  pub restanding_nowhere : (change : Standing → Standing) → index_kept handlers handler number ≡ None →
      all_seen handlers releases ≡ restanding change handler number (all_seen handlers releases)
  unfolding releases_by
  restanding_nowhere change e = sym (restanding_by change None e)

  pub restanding_past : (change : Standing → Standing) (index : ℕ) → index_kept handlers handler number ≡ Some index →
      slice_get releases index ≡ None →
      all_seen handlers releases ≡ restanding change handler number (all_seen handlers releases)
  unfolding releases_by
  restanding_past change index e f =
      sym (restanding_by change (Some index) e
      ∙ ap (λ (o : Option Release). with_releases (elim o as (λ _. List Release) [
        | None ↦ releases
        | Some r ↦ slice_set releases index (record r { standing = change r.standing })
      ])) f)

  pub restanding_at : (change : Standing → Standing) (index : ℕ) (r : Release) →
      index_kept handlers handler number ≡ Some index → slice_get releases index ≡ Some r →
      all_seen handlers (slice_set releases index (record r { standing = change r.standing }))
      ≡ restanding change handler number (all_seen handlers releases)
  unfolding releases_by
  restanding_at change index r e f =
      sym (restanding_by change (Some index) e
      ∙ ap (λ (o : Option Release). with_releases (elim o as (λ _. List Release) [
        | None ↦ releases
        | Some r ↦ slice_set releases index (record r { standing = change r.standing })
      ])) f)

-- ---- a change that depends on how the release stands

abbrev standings : Option Release → Option Standing
standings o = option_map (λ (r : Release). r.standing) o

abbrev set_if : List Release → ℕ → (Release → Standing) → Option Release → List Release
set_if rs index to o =
    elim o as (λ _. List Release) [ None ↦ rs | Some r ↦ slice_set rs index (record r { standing = to r }) ]

changed_so : (change : Standing → Standing) (s : Standing) (index : ℕ) (rs : List Release) →
    standings (slice_get rs index) ≡ Some s → changed (λ r. record r { standing = change s }) index rs
    ≡ changed (λ r. record r { standing = change r.standing }) index rs
changed_so change s index rs e = go (slice_get rs index) refl e
  where
    go : (o : Option Release) → slice_get rs index ≡ o → standings o ≡ Some s →
        set_if rs index (λ r. change s) (slice_get rs index) ≡ set_if rs index (λ r. change r.standing) (slice_get rs index)
    go None f g = absurd (cc (g))
    go (Some r) f g =
        let same : s ≡ r.standing = sym (some_inj r.standing s g) in
        ap (set_if rs index (λ r. change s)) f
        ∙ (ap (λ (t : Standing). slice_set rs index (record r { standing = change t })) same
        ∙ sym (ap (set_if rs index (λ r. change r.standing)) f))

abbrev changed_at : Releases → (Release → Standing) → Option ℕ → Releases
changed_at all to o =
    record all {
      releases = elim o as (λ _. List Release) [
        | None ↦ all.releases
        | Some p ↦ set_if all.releases p to (slice_get all.releases p)
      ];
    }

pub restanding_so : (change : Standing → Standing) (s : Standing) (handler number : ℕ) (all : Releases) →
    standing_named all handler number ≡ Some s →
    restanding (λ t. change s) handler number all ≡ restanding change handler number all
restanding_so change s handler number all e = go (index_of all.releases handler number) refl e
  where
    go : (o : Option ℕ) → index_of all.releases handler number ≡ o →
        standings (release_in all.releases (index_of all.releases handler number)) ≡ Some s →
        changed_at all (λ r. change s) (index_of all.releases handler number)
        ≡ changed_at all (λ r. change r.standing) (index_of all.releases handler number)
    go None f g = ap (changed_at all (λ r. change s)) f ∙ sym (ap (changed_at all (λ r. change r.standing)) f)
    go (Some p) f g =
        ap (changed_at all (λ r. change s)) f
        ∙ (ap (λ (rs : List Release). record all { releases = rs })
        (changed_so change s p all.releases
        (sym (ap (λ (o : Option ℕ). standings (release_in all.releases o)) f) ∙ g))
        ∙ sym (ap (changed_at all (λ r. change r.standing)) f))

no_standing : (o : Option Release) → standings o ≡ None → o ≡ None
no_standing None g = refl
no_standing (Some r) g = absurd (cc (g))

pub restanding_nobody : (change : Standing → Standing) (handler number : ℕ) (all : Releases) →
    standing_named all handler number ≡ None → all ≡ restanding change handler number all
restanding_nobody change handler number all e = go (index_of all.releases handler number) refl e
  where
    go : (o : Option ℕ) → index_of all.releases handler number ≡ o →
        standings (release_in all.releases (index_of all.releases handler number)) ≡ None →
        all ≡ changed_at all (λ r. change r.standing) (index_of all.releases handler number)
    go None f g = sym (ap (changed_at all (λ r. change r.standing)) f)
    go (Some p) f g =
        sym (ap (changed_at all (λ r. change r.standing)) f
        ∙ ap (λ (o : Option Release). record all { releases = set_if all.releases p (λ r. change r.standing) o })
        (no_standing (slice_get all.releases p)
        (sym (ap (λ (o : Option ℕ). standings (release_in all.releases o)) f) ∙ g)))

-- a release of this name waits, by its standing
pub waits_if : (all : Releases) (handler number : ℕ) → standing_named all handler number ≡ Some Waits →
    holds (release_named all.releases handler number) is_waiting ≡ true
waits_if all handler number e = go (release_named all.releases handler number) refl e
  where
    go : (o : Option Release) → release_named all.releases handler number ≡ o → standings o ≡ Some Waits →
        holds o is_waiting ≡ true
    go None f g = absurd (cc (g))
    go (Some r) f g =
        ap (λ (s : Standing). elim s as (λ _. Bool) [ Waits ↦ true | Started p ↦ false | Gone ↦ false ])
        (some_inj r.standing Waits g)

pub waits_not : (all : Releases) (handler number : ℕ) → (standing_named all handler number ≡ Some Waits → ⊥) →
    holds (release_named all.releases handler number) is_waiting ≡ false
waits_not all handler number e = go (release_named all.releases handler number) e
  where
    by_standing : (s : Standing) → (Some s ≡ Some Waits → ⊥) →
        elim s as (λ _. Bool) [ Waits ↦ true | Started p ↦ false | Gone ↦ false ] ≡ false
    by_standing Waits n = absurd (n refl)
    by_standing (Started p) n = refl
    by_standing Gone n = refl

    go : (o : Option Release) → (standings o ≡ Some Waits → ⊥) → holds o is_waiting ≡ false
    go None n = refl
    go (Some r) n = by_standing r.standing n
