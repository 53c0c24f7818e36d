-- Handlers by their numbers: what is numbered has a row in the registry.
use Rattle.std.specs.Prelude.{Option, Some, None, slice_get, ◌+◌, ◌==◌, if◌then◌else◌, option_map, position}
use Rattle.std.proofs.Common.{◌≡◌, ℕ, suc, List, [], ◌∷◌, Bool, true, false, refl, sym, ◌∙◌, ap, subst, arith}
use Rattle.accepted_laws.proofs.Fields.{position-cons}
use Rattle.accepted_laws.proofs.Tools.{some_inj}
use Rattle.scj_model.specs.declared.handlers.HandlerRow.{HandlerRow}
use Rattle.scj_model.specs.Registry.{handler_row, handler_number, number_where}

abbrev pub HasRow : List HandlerRow → ℕ → Type 0
HasRow registry handler = (row : HandlerRow) × (handler_row registry handler ≡ Some row)

-- the number of a place in the registry has its row
pub placed_row : (registry : List HandlerRow) (n k : ℕ) (row : HandlerRow) → n ≡ suc k →
    slice_get registry k ≡ Some row →
    HasRow registry n
placed_row registry n k row e there = subst (HasRow registry) (sym e) (row, there)

-- the first element that passes a test is there
first_there : (test : HandlerRow → Bool) (rows : List HandlerRow) (k : ℕ) → position test rows ≡ Some k →
    (row : HandlerRow) × (slice_get rows k ≡ Some row)
first_there test [] k e = absurd (cc (e))
first_there test (x ∷ rows) k e = go (test x) (sym (position-cons test x rows) ∙ e) (first_there test rows)
  where
    later : (o : Option ℕ) → position test rows ≡ o → option_map (λ k. 1 + k) o ≡ Some k →
        ((k : ℕ) → position test rows ≡ Some k → (row : HandlerRow) × (slice_get rows k ≡ Some row)) →
        (row : HandlerRow) × (slice_get (x ∷ rows) k ≡ Some row)
    later None f e ih = absurd (cc (e))
    later (Some j) f e ih =
        let next : k ≡ suc j = sym (some_inj (1 + j) k e) ∙ omega arith in
        let r = ih j f in
        (r.0, ap (slice_get (x ∷ rows)) next ∙ r.1)

    go : (b : Bool) → (if b then Some 0 else option_map (λ k. 1 + k) (position test rows)) ≡ Some k →
        ((k : ℕ) → position test rows ≡ Some k → (row : HandlerRow) × (slice_get rows k ≡ Some row)) →
        (row : HandlerRow) × (slice_get (x ∷ rows) k ≡ Some row)
    go true e ih = (x, ap (slice_get (x ∷ rows)) (sym (some_inj 0 k e)))
    go false e ih = later (position test rows) refl e ih

pub number_has_row : (test : HandlerRow → Bool) (registry : List HandlerRow) (handler : ℕ) →
    number_where test registry ≡ Some handler → HasRow registry handler
number_has_row test registry handler e = go (position test registry) refl e
  where
    go : (o : Option ℕ) → position test registry ≡ o → option_map (λ k. k + 1) o ≡ Some handler →
        HasRow registry handler
    go None there e = absurd (cc (e))
    go (Some k) there e =
        let r = first_there test registry k there in
        placed_row registry handler k r.0 (sym (some_inj (k + 1) handler e) ∙ omega arith) r.1

pub handler_has_row : (registry : List HandlerRow) (r handler : ℕ) → handler_number registry r ≡ Some handler →
    HasRow registry handler
unfolding handler_number
handler_has_row registry r handler e = number_has_row (λ (row : HandlerRow). row.at == r) registry handler e
