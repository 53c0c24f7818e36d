-- A `new` of a class of the framework's forms with so many arguments; and tests along lists.
use Rattle.std.proofs.Common.{◌≡◌, ℕ, List, [], ◌∷◌, length, refl, sym, ap, ◌∙◌, Option, Some, None, Bool, true, false, not, ◌&&◌, ◌||◌, true≢false, inl, inr, ◌==◌, is_some, slice_get}
use Rattle.scj_base.specs.declared.positions.Position.{Position}
use Rattle.scj_tree.specs.declared.nodes.Node.{Node}
use Rattle.scj_tree.specs.declared.nodes.Node.TheVariants.{New}
use Rattle.scj_rules.specs.Definitions.{read}
use Rattle.scj_rules.specs.Words.{is_among, holds}
use Rattle.scj_rules.specs.Classes.{class_number}
use Rattle.scj_rules.specs.Contexts.{Declarations}
use Rattle.scj_rules.specs.Types.{new_of, is_new}
use Rattle.scj_rules.proofs.ChainLemmas.{or_cases, or_left, or_right, is_same_number, same_number}
use Rattle.accepted_laws.proofs.MethodNodes.{and_true}
use Rattle.accepted_laws.proofs.Tools.{some_inj}
use Rattle.accepted_nodes.proofs.FormParts.{bound, held, if_some}
use Rattle.accepted_facts.proofs.StatementFacts.{or_false}
use Rattle.std.specs.List.{list_any}

-- ---- tests along lists

pub none_passes : (test : ℕ → Bool) (xs : List ℕ) → ((x : ℕ) → is_among x xs ≡ true → test x ≡ false) →
    list_any test xs ≡ false
none_passes test [] h = refl
none_passes test (x ∷ xs) h =
    ap (λ t. t || list_any test xs) (h x (or_left (x == x) (is_among x xs) (is_same_number x x refl)))
    ∙ none_passes test xs (λ y a. h y (or_right (y == x) (is_among y xs) a))

pub each_fails : (test : ℕ → Bool) (xs : List ℕ) → list_any test xs ≡ false → (x : ℕ) → is_among x xs ≡ true →
    test x ≡ false
each_fails test [] e x h = absurd (true≢false (sym h))
each_fails test (y ∷ xs) e x h =
    let both = or_false (test y) (list_any test xs) e in
    elim (or_cases (x == y) (is_among x xs) h) as (λ z. test x ≡ false) [
      | inl s ↦ ap test (same_number x y s) ∙ both.0
      | inr s ↦ each_fails test xs both.1 x s
    ]

pub second_false : (a b : Bool) → (not a && b) ≡ false → a ≡ false → b ≡ false
second_false true b e h = absurd (true≢false h)
second_false false b e h = e

-- `new` of a form's class, with so many arguments
pub record NewPart (p : Declarations) (class count x : ℕ) : Type 0 where
  pub position : Position
  pub name_position : Position
  pub name : List ℕ
  pub list : List ℕ
  pub is_there : slice_get p.nodes x ≡ Some (New position name_position name list)
  pub names : class_number p.names name ≡ Some class
  pub counted : length list ≡ count

module _ (p : Declarations) where
  part_of_node : (class count x : ℕ) (node : Node) (list : List ℕ) → slice_get p.nodes x ≡ Some node →
      new_of p class count node ≡ Some list → (n : NewPart p class count x) × (n.list ≡ list)
  unfolding new_of
  part_of_node class count x (New position name_position name own) list there e =
      let a = if_some (holds (class_number p.names name) (λ c. c == class) && (length own == count)) (Some own) list e
      in
      let b = and_true (holds (class_number p.names name) (λ c. c == class)) (length own == count) a.0 in
      let c = held (class_number p.names name) (λ c. c == class) b.0 in (
        record {
          position = position;
          name_position = name_position;
          name = name;
          list = own;
          is_there = there;
          names = c.1
              ∙ ap (λ n. Some n) (same_number c.0 class c.2);
          counted = same_number (length own) count b.1;
        },
        some_inj own list a.1,
      )
  part_of_node class count x _ list there e = absurd (cc (e))

  pub read_part : (class count x : ℕ) (list : List ℕ) → read p.nodes (new_of p class count) x ≡ Some list →
      (n : NewPart p class count x) × (n.list ≡ list)
  read_part class count x list e =
      (let a = bound (slice_get p.nodes x) (new_of p class count) list e in part_of_node class count x a.0 list a.1 a.2)

  pub new_part : (class count x : ℕ) → is_new p class count x ≡ true → NewPart p class count x
  new_part class count x e = go (read p.nodes (new_of p class count) x) refl e
    where
      go : (o : Option (List ℕ)) → read p.nodes (new_of p class count) x ≡ o → is_some o ≡ true →
          NewPart p class count x
      go None h e = absurd (true≢false (sym e))
      go (Some list) h e = (read_part class count x list h).0
