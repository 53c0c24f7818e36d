-- Rooms, as code finds them.
use Rattle.std.specs.Prelude.{Option, Some, None, slice_get, slice_set, slice_index_or, is_some, filter, filter_map, max, drop, ◌&&◌, ◌||◌, if◌then◌else◌, codes}
use Rattle.std.specs.List.{list_any}
use Rattle.std.proofs.Common.{◌≡◌, ℕ, ◌+◌, ◌<◌, ◌≤◌, ◌==◌, List, [], ◌∷◌, ◌++◌, length, Bool, true, false, refl, sym, ◌∙◌, ap, arith}
use Rattle.std.proofs.lemmas.List.{drop_all, length-replicate, length-set}
use Rattle.scj_base.specs.declared.positions.Position.{Position}
use Rattle.scj_builtins.specs.Framework.{managed_memory_enter_private_memory}
use Rattle.scj_tree.specs.declared.nodes.Node.{Node}
use Rattle.scj_tree.specs.declared.nodes.Node.TheVariants.{Call}
use Rattle.scj_tree.specs.Heights.{highest}
use Rattle.scj_tree.specs.Recursion.{lookup}
use Rattle.scj_rules.specs.declared.typing.Target.{Target}
use Rattle.scj_rules.specs.declared.typing.Binding.{Binding}
use Rattle.scj_rules.specs.declared.typing.Binding.TheVariants.{Builtin}
use Rattle.scj_rules.specs.declared.views.Body.{Body}
use Rattle.scj_rules.specs.Words.{◌>>=◌}
use Rattle.scj_rules.specs.Definitions.{read}
use Rattle.scj_rules.specs.Bodies.{body_named, number_literal}
use Rattle.scj_rules.specs.ClassRules.{numbers_from}
use Rattle.scj_rules.specs.Contexts.{Declarations}
use Rattle.scj_model.specs.Code.{Code, binding}
use Rattle.scj_model.specs.Memory.{rounded_up}
use Rattle.memory_needs.specs.declared.code.Asked.TheVariants.{Run}
use Rattle.memory_needs.specs.Targets.{is_concrete_under, classes_under, runs_under, call_targets, memory_targets, targets_here, targets_entered, targets}
use Rattle.memory_needs.specs.Need.{Table, greatest}
use Rattle.memory_needs.specs.Room.{entered_with, own_room, target_room}
use Rattle.memory_needs.specs.Edges.{count, written_nodes}
use Rattle.memory_needs.specs.Sites.{asked_body, has_body, is_any}
use Rattle.memory_needs.specs.Solved.{reported_by, room_by, solved_by, solved_rooms, zero_rows}
use Rattle.memory_needs.specs.Stores.{opened_room}
use Rattle.memory_needs.proofs.Capped.{dropped}
use Rattle.memory_needs.proofs.NeedLemmas.{highest_written}

-- ---- the size that is entered with

pub none_entered : (t : Target) (node : Node) → (t.id == managed_memory_enter_private_memory) ≡ false →
    None ≡ entered_with (Builtin t) node
unfolding entered_with
none_entered t (Call position name object (size ∷ more)) e = sym (ap (λ b. if b then Some size else None) e)
none_entered t (Call position name object []) e = refl
none_entered t node e = refl

pub first_entered : (t : Target) (position : Position) (name : List ℕ) (object : Option ℕ) (arguments : List ℕ) →
    (t.id == managed_memory_enter_private_memory) ≡ true →
    slice_get arguments 0 ≡ entered_with (Builtin t) (Call position name object arguments)
unfolding entered_with
first_entered t position name object [] e = refl
first_entered t position name object (size ∷ more) e = sym (ap (λ b. if b then Some size else None) e)

-- what enters a private memory is a call
data Enters (b : Binding) : Node → Type 0 where
  by_call : (t : Target) → b ≡ Builtin t → (position : Position) (name : List ℕ) (object : Option ℕ) (arguments : List ℕ) →
      Enters b (Call position name object arguments)

enters : (b : Binding) (node : Node) (size : ℕ) → entered_with b node ≡ Some size → Enters b node
unfolding entered_with
enters (Builtin t) (Call position name object arguments) size e = by_call t refl position name object arguments
enters (Builtin t) node size e = absurd (cc (e))
enters b node size e = absurd (cc (e))

-- so it runs nothing but that
only_entered : (code : Code) (id : ℕ) (node : Node) (size : ℕ) → slice_get code.program.nodes id ≡ Some node →
    entered_with (binding code id) node ≡ Some size → targets code id ≡ memory_targets code.program (binding code id)
unfolding targets targets_here targets_entered call_targets
only_entered code id node size there e =
    ap (λ (o : Option Node). elim o [ None ↦ [] | Some n ↦ targets_here code id n ++ targets_entered code id n ]) there
    ∙ of node (enters (binding code id) node size e)
  where
    of : (node : Node) → Enters (binding code id) node →
        targets_here code id node ++ targets_entered code id node ≡ memory_targets code.program (binding code id)
    of _ (by_call t q place name object arguments) =
        ap (λ b. call_targets code.program b ++ memory_targets code.program (binding code id)) q

-- ---- the greatest of the targets, in what is opened for them

greatest_both : (t : Table) (xs ys : List Body) → greatest t (xs ++ ys) ≡ max (greatest t xs) (greatest t ys)
unfolding greatest
greatest_both t [] ys = omega arith
greatest_both t (x ∷ xs) ys = let e = greatest_both t xs ys in omega (arith, e)

greatest_plus : (t : Table) (n : ℕ) (bodies : List Body) →
    greatest (λ b. t b + n) bodies ≡ greatest t bodies + (if is_any bodies then n else 0)
unfolding greatest is_any
greatest_plus t n [] = refl
greatest_plus t n (b ∷ []) = omega arith
greatest_plus t n (b ∷ c ∷ bodies) = let e = greatest_plus t n (c ∷ bodies) in omega (arith, e)

none_is : (b : Bool) (n : ℕ) → n ≡ 0 → (if b then n else 0) ≡ n
none_is true n e = refl
none_is false n e = sym e

own_none : (code : Code) (id : ℕ) (node : Node) → entered_with (binding code id) node ≡ None →
    own_room code id node ≡ 0
unfolding own_room
own_none code id node e =
    ap (λ (o : Option ℕ). elim (o >>= read code.program.nodes number_literal) as (λ z. ℕ) [
      | None ↦ 0
      | Some size ↦ rounded_up size
    ]) e

-- what is opened counts where it is more than 0
opened : (code : Code) (id : ℕ) (node : Node) → slice_get code.program.nodes id ≡ Some node →
    (if is_any (targets code id) then own_room code id node else 0) ≡ opened_room code id node
unfolding opened_room
opened code id node there = of (entered_with (binding code id) node) refl
  where
    of : (o : Option ℕ) → entered_with (binding code id) node ≡ o →
        (if is_any (targets code id) then own_room code id node else 0)
        ≡ (if is_any (memory_targets code.program (binding code id)) then own_room code id node else 0)
    of None e =
        none_is (is_any (targets code id)) (own_room code id node) (own_none code id node e)
        ∙ sym (none_is (is_any (memory_targets code.program (binding code id))) (own_room code id node)
        (own_none code id node e))
    of (Some size) e =
        ap (λ (bs : List Body). if is_any bs then own_room code id node else 0)
        (only_entered code id node size there e)

pub target_room_is : (code : Code) (rows : List ℕ) (id : ℕ) (node : Node) → slice_get code.program.nodes id ≡ Some node →
    target_room code (reported_by rows) id node
    ≡ max (highest (lookup 0 rows) (written_nodes (targets_here code id node)))
    (highest (lookup 0 rows) (written_nodes (targets_entered code id node))) + opened_room code id node
unfolding targets
target_room_is code rows id node there =
    let a = greatest_plus (reported_by rows) (own_room code id node) (targets code id) in
    let b = opened code id node there in
    let c = ap (λ (o : Option Node). greatest (reported_by rows)
    (elim o [ None ↦ [] | Some n ↦ targets_here code id n ++ targets_entered code id n ])) there in
    let d = greatest_both (reported_by rows) (targets_here code id node) (targets_entered code id node) in
    let h = highest_written rows (targets_here code id node) in
    let e = highest_written rows (targets_entered code id node) in
    omega (arith, a, b, c, d, h, e)

-- ---- whether anything is run

any_is : (f : ℕ → Option Body) (g : ℕ → Bool) (ns : List ℕ) →
    list_any (λ n. g n && is_some (f n)) ns ≡ is_any (filter_map f (filter g ns))
unfolding is_any
any_is f g [] = refl
any_is f g (n ∷ ns) = of (g n) (f n) refl (any_is f g ns)
  where
    of : (b : Bool) (o : Option Body) → f n ≡ o →
        list_any (λ n. g n && is_some (f n)) ns ≡ is_any (filter_map f (filter g ns)) →
        ((b && is_some (f n)) || list_any (λ n. g n && is_some (f n)) ns)
        ≡ is_any (filter_map f (if b then n ∷ filter g ns else filter g ns))
    of false o e h = h
    of true None e h = rw e h
    of true (Some body) e h = rw e refl

pub any_runs : (p : Declarations) (on : ℕ) →
    list_any (has_body p on Run) (numbers_from 0 p.classes) ≡ is_any (runs_under p on)
unfolding has_body asked_body runs_under classes_under
any_runs p on =
    any_is (λ class. body_named p class (codes "run")) (is_concrete_under p on) (numbers_from 0 p.classes)

-- ---- one after the other

pub record IsRooming (code : Code) (order : List ℕ) (index : ℕ) (rows : List ℕ) : Type 0 where
  pub whole : length rows ≡ count code
  pub left : solved_rooms code (drop index order) rows ≡ solved_rooms code order (zero_rows code)

pub rooms_none : (code : Code) (order rows : List ℕ) → rows ≡ zero_rows code → IsRooming code order 0 rows
rooms_none code order rows e = record {
  whole = ap (λ (xs : List ℕ). length xs) e ∙ length-replicate (count code) 0;
  left = ap (solved_rooms code order) e;
}

pub rooms_more : (code : Code) (order : List ℕ) (index : ℕ) (rows after : List ℕ) → IsRooming code order index rows →
    index < length order →
    after ≡ slice_set rows (slice_index_or order index 0) (room_by code rows (slice_index_or order index 0)) →
    IsRooming code order (index + 1) after
unfolding solved_by
rooms_more code order index rows after r l e = record {
  whole =
      ap (λ (xs : List ℕ). length xs) e
      ∙ (length-set rows (slice_index_or order index 0) (room_by code rows (slice_index_or order index 0)) ∙ r.whole);
  left =
      ap (solved_rooms code (drop (index + 1) order)) e
      ∙ (sym (ap (λ xs. solved_rooms code xs rows) (dropped order index l)) ∙ r.left);
}

pub rooms_all : (code : Code) (order : List ℕ) (index : ℕ) (rows : List ℕ) → IsRooming code order index rows →
    length order ≤ index → rows ≡ solved_rooms code order (zero_rows code)
unfolding solved_by
rooms_all code order index rows r l =
    sym (ap (λ xs. solved_rooms code xs rows) (drop_all index order l)) ∙ r.left
