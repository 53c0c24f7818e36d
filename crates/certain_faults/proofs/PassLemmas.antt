-- What the pass tells of each node.
use Rattle.std.proofs.Common.{◌≡◌, ℕ, suc, ◌+◌, ◌<◌, ◌≤◌, List, [], ◌∷◌, ◌++◌, length, slice_get, Option, Some, None, refl, sym, ap, ◌∙◌, arith, subst, ◌⊎◌, inl, inr, ⊎_elim}
use Rattle.std.specs.List.{Contains, dedup}
use Rattle.std.specs.List.Sorted.{IsPermutation, IsSorted}
use Rattle.std.proofs.lemmas.Bool.{cases_lt}
use Rattle.std.proofs.lemmas.Option.{slice_get_within, slice_get_past}
use Rattle.std.proofs.lemmas.List.Elements.{Contains-push, Contains-push_cases}
use Rattle.scj_base.specs.declared.faults.RunFault.{RunFault}
use Rattle.scj_base.specs.declared.positions.Position.{Position}
use Rattle.scj_tree.specs.declared.nodes.Node.{Node}
use Rattle.scj_tree.specs.Recursion.{lookup, below, bottom_up, by_smaller, joined_below}
use Rattle.scj_tree.proofs.RecursionLemmas.{bottom_up-at, lookup-behind, length-bottom_up, by_smaller-is, from_joined, to_joined}
use Rattle.scj_rules.specs.declared.typing.Binding.{Binding}
use Rattle.scj_rules.specs.Words.{◌>>=◌}
use Rattle.scj_model.specs.Code.{Code, position_of_node}
use Rattle.certain_faults.specs.declared.found.CertainFault.{CertainFault}
use Rattle.certain_faults.specs.declared.known.Left.{Left}
use Rattle.certain_faults.specs.declared.known.Left.TheVariants.{Forgets}
use Rattle.certain_faults.specs.Known.{left_by, left_by_node, next_left}
use Rattle.certain_faults.specs.Faults.{division_fault, length_fault, call_fault, super_fault, fault_at_node, certain_fault}
use Rattle.certain_faults.specs.Places.{found_at}
use Rattle.certain_faults.specs.Report.{IsCertain, IsFaultReport, fault_order, is_same_fault}
use Rattle.certain_faults.proofs.Reports.{in_fault_order, same_faults}

-- ---- by what is told of the parts

pub division_reported : (rows : List Left) (code : Code) (operator right : ℕ) → lookup Forgets rows ≡ left_by code →
    division_fault operator (lookup Forgets rows right) ≡ division_fault operator (left_by code right)
division_reported rows code operator right e = ap (λ (left : ℕ → Left). division_fault operator (left right)) e

pub length_reported : (rows : List Left) (code : Code) (part : ℕ) → lookup Forgets rows ≡ left_by code →
    length_fault (lookup Forgets rows part) ≡ length_fault (left_by code part)
length_reported rows code part e = ap (λ (left : ℕ → Left). length_fault (left part)) e

pub call_reported : (rows : List Left) (code : Code) (arguments : List ℕ) (b : Binding) →
    lookup Forgets rows ≡ left_by code →
    call_fault (lookup Forgets rows) arguments b ≡ call_fault (left_by code) arguments b
call_reported rows code arguments b e = ap (λ (left : ℕ → Left). call_fault left arguments b) e

pub super_reported : (rows : List Left) (code : Code) (arguments : List ℕ) (b : Binding) →
    lookup Forgets rows ≡ left_by code →
    super_fault (lookup Forgets rows) arguments b ≡ super_fault (left_by code) arguments b
super_reported rows code arguments b e = ap (λ (left : ℕ → Left). super_fault left arguments b) e

-- ---- the rows

behind_all : (code : Code) (id : ℕ) → slice_get code.program.nodes id ≡ None → left_by code id ≡ Forgets
unfolding left_by next_left
behind_all code id e =
    by_smaller-is Forgets (next_left code) id
    ∙ ap (λ (o : Option Node). elim o as (λ z. Left) [ None ↦ Forgets | Some node ↦ left_by_node code (below Forgets id (by_smaller Forgets (next_left code))) id node ]) e

pub rows_report : (code : Code) (rows : List Left) (n : ℕ) → n ≡ length code.program.nodes →
    rows ≡ bottom_up Forgets (next_left code) n → lookup Forgets rows ≡ left_by code
unfolding left_by
rows_report code rows n all e =
    ap (lookup Forgets) e ∙ (λ i k. at k i)
  where
    at : (k : ℕ) → lookup Forgets (bottom_up Forgets (next_left code) n) k ≡ by_smaller Forgets (next_left code) k
    at k =
        ⊎_elim (λ (l : k < n). bottom_up-at Forgets (next_left code) n k l)
        (λ (m : n ≤ k).
        lookup-behind Forgets (bottom_up Forgets (next_left code) n) k
        (omega (arith, m, length-bottom_up Forgets (next_left code) n))
        ∙ sym (behind_all code k (slice_get_past code.program.nodes k (omega (arith, m, all)))))
        (cases_lt k n)

pub one_row_more : (step : ℕ → (ℕ → Left) → Left) (k : ℕ) (rows : List Left) (left : Left) →
    rows ≡ bottom_up Forgets step k → left ≡ step k (lookup Forgets rows) →
    rows ++ left ∷ [] ≡ bottom_up Forgets step (k + 1)
unfolding bottom_up
one_row_more step k rows left e f =
    ap (λ (l : Left). rows ++ l ∷ []) f
    ∙ ap (λ (ls : List Left). ls ++ step k (lookup Forgets ls) ∷ []) e
    ∙ ap (bottom_up Forgets step) (let next : suc k ≡ k + 1 = omega arith in next)

-- ---- the report

none_there : (one : CertainFault) → Contains [] one → ⊥
none_there one h = (let l : h.0 < 0 = h.1 in omega (arith, l))

certain_at : (code : Code) (id : ℕ) (one : CertainFault) → Contains (found_at code id) one → IsCertain code one
unfolding found_at
certain_at code id one h = go (certain_fault code id) refl h
  where
    alone : (fault : RunFault) → certain_fault code id ≡ Some fault →
        Contains [] one ⊎ (record { pos = position_of_node code id; fault = fault } ≡ one) → IsCertain code one
    alone fault e (inl k) = absurd (none_there one k)
    alone fault e (inr same) =
        record {
          id = id;
          is_position = ap (λ (c : CertainFault). c.pos) same;
          is_fault = e ∙ ap (λ (c : CertainFault). Some c.fault) same;
        }

    go : (o : Option RunFault) → certain_fault code id ≡ o →
        Contains (elim o as (λ z. List CertainFault) [
          | None ↦ []
          | Some fault ↦ record { pos = position_of_node code id; fault = fault } ∷ []
        ]) one → IsCertain code one
    go None e k = absurd (none_there one k)
    go (Some fault) e k = alone fault e (Contains-push_cases [] (record { pos = position_of_node code id; fault = fault }) one k)

pub from_nodes : (code : Code) (n : ℕ) (one : CertainFault) → Contains (joined_below (found_at code) n) one →
    IsCertain code one
from_nodes code n one h = let r = from_joined (found_at code) n one h in certain_at code r.0 one r.2

to_node : (code : Code) (one : CertainFault) (c : IsCertain code one) → Contains (found_at code c.id) one
unfolding found_at
to_node code one c =
    subst (λ (list : List CertainFault). Contains list one)
    (sym
    (ap (λ (o : Option RunFault). elim o as (λ z. List CertainFault) [
      | None ↦ []
      | Some fault ↦ record { pos = position_of_node code c.id; fault = fault } ∷ []
    ]) c.is_fault
    ∙ ap (λ (p : Position). record { pos = p; fault = one.fault } ∷ []) c.is_position))
    (Contains-push [] one)

is_node : (code : Code) (id : ℕ) (fault : RunFault) → certain_fault code id ≡ Some fault →
    id < length code.program.nodes
unfolding certain_fault
is_node code id fault e = go (slice_get code.program.nodes id) refl e
  where
    go : (o : Option Node) → slice_get code.program.nodes id ≡ o → (o >>= fault_at_node code id) ≡ Some fault →
        id < length code.program.nodes
    go None there k = absurd (cc (k))
    go (Some node) there k = slice_get_within code.program.nodes id node there

pub to_nodes : (code : Code) (n : ℕ) → n ≡ length code.program.nodes → (one : CertainFault) → IsCertain code one →
    Contains (joined_below (found_at code) n) one
to_nodes code n all one c =
    to_joined (found_at code) n c.id one (omega (arith, all, is_node code c.id one.fault c.is_fault))
    (to_node code one c)

module _ (code : Code) (n : ℕ) (all : n ≡ length code.program.nodes) where
  pub report_of : (found sorted : List CertainFault) → found ≡ joined_below (found_at code) n →
      IsSorted fault_order sorted → IsPermutation found sorted →
      IsFaultReport code (dedup is_same_fault sorted)
  report_of found sorted e order same =
      record {
        in_order = in_fault_order sorted order;
        exact = λ one. (
          λ h. from_nodes code n one (subst (λ (list : List CertainFault). Contains list one) e
              ((same_faults found sorted same one).0 h)),
          λ c. (same_faults found sorted same one).1
              (subst (λ (list : List CertainFault). Contains list one) (sym e) (to_nodes code n all one c)),
        );
      }
