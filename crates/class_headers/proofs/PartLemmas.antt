-- The parts of a header, the index of names, and what is read of a list element by element.
use Rattle.std.proofs.Common.{◌≡◌, ◌∙◌, arith, ℕ, Bool, cond, List, [], ◌∷◌, map, refl, ap, Option, Some, None, is_some, option_map, option_and_then, ◌+◌, length, drop, sym, slice_get, unwrap_or, if◌then◌else◌, ◌<◌, get_or}
use Rattle.std.specs.Option.{option_or}
use Rattle.std.specs.List.{filter_map, find as first_that, slice_get, position, position_from}
use Rattle.scj_tree.specs.declared.nodes.Node.{Node}
use Rattle.scj_tree.specs.declared.nodes.Node.TheVariants.{Constructor}
use Rattle.scj_rules.specs.declared.scopes.Written.{Written}
use Rattle.scj_rules.specs.Views.{DeclaredConstructor, constructor_at, constructor_of, WrittenClass, class_at}
use Rattle.class_headers.specs.Rows.{first_node, interfaces_by, superclass_by, header_by}
use Rattle.std.proofs.lemmas.Grind.{common_steps}
use Rattle.std.proofs.lemmas.List.{at_drop_more}
use Rattle.scj_builtins.specs.declared.kinds.ClassKind.TheVariants.{Abstract as abstract_class, Concrete as concrete_class}
use Rattle.scj_rules.specs.declared.views.Modifiers.{Modifiers}
use Rattle.class_headers.specs.declared.filling.Header.{Header}
use Rattle.class_headers.proofs.SoundLemmas.{node_of_class}
use Rattle.std.proofs.lemmas.Cmp.{nat_list_eq_equiv}
use Rattle.std.proofs.lemmas.Iterator.Adapters.{position_from-zero}
use Rattle.scj_base.specs.Bytes.{is_same}

pub map_filter_map : {X A B : Type 0} (f : A → B) (g : X → Option A) (xs : List X) →
    filter_map (λ x. option_map f (g x)) xs ≡ map f (filter_map g xs)
map_filter_map f g [] = refl
map_filter_map f g (x ∷ xs) = grind (arith, common_steps, map_filter_map f g xs)

filter_map_then : {X A B : Type 0} (f : A → Option B) (g : X → Option A) (xs : List X) →
    filter_map (λ x. option_and_then f (g x)) xs ≡ filter_map f (filter_map g xs)
filter_map_then f g [] = refl
filter_map_then f g (x ∷ xs) = grind (arith, common_steps, filter_map_then f g xs)

pub interfaces_are : (find : List ℕ → Option ℕ) (written : ℕ → Option Written) (ids found : List ℕ) (ws : List Written)
    → found ≡ filter_map (λ id. option_and_then (λ (w : Written). find w.name) (written id)) ids →
    filter_map written ids ≡ ws → found ≡ interfaces_by find ws
interfaces_are find written ids found ws e h =
    e ∙ filter_map_then (λ (w : Written). find w.name) written ids ∙ ap (interfaces_by find) h

-- a constructor that is read at a node is that node's
pub node_of_constructor : (nodes : List Node) (id : ℕ) (o : Option Node) (c : DeclaredConstructor) →
    option_and_then (constructor_of nodes id) o ≡ Some c → c.node ≡ id
unfolding constructor_of
node_of_constructor nodes id None c h = cc
node_of_constructor nodes id (Some (Constructor position name flags parameters super_call body)) c h = cc
node_of_constructor nodes id (Some _) c h = cc

pub first_is : (nodes : List Node) (ids : List ℕ) →
    first_that (λ id. is_some (constructor_at nodes id)) ids ≡ first_node (filter_map (constructor_at nodes) ids)
first_is nodes [] = refl
first_is nodes (id ∷ ids) =
    grind (arith, common_steps, first_is nodes ids, node_of_constructor nodes id (slice_get nodes id))

-- the header of a class from what is read at its node
abbrev pub parts : List Node → (List ℕ → Option ℕ) → ℕ → Option WrittenClass → Modifiers → Header
parts nodes find id o m =
    record {
      node = Some id;
      kind = if m.is_abstract then abstract_class else concrete_class;
      superclass = superclass_by find (option_and_then (λ (c : WrittenClass). c.extends) o);
      constructor =
          first_that
          (λ i. is_some (constructor_at nodes i))
          (unwrap_or (option_map (λ (c : WrittenClass). c.members) o) []);
    }

pub parts_are : (nodes : List Node) (find : List ℕ → Option ℕ) (id : ℕ)
    → option_map (parts nodes find id (class_at nodes id))
    (option_map (λ (c : WrittenClass). c.modifiers) (class_at nodes id))
    ≡ option_map (header_by nodes find) (class_at nodes id)
unfolding header_by
parts_are nodes find id = grind (arith, common_steps, node_of_class nodes id (slice_get nodes id), first_is nodes)

-- one class more where the table has none
pub one_more_behind : (t : Bool) (class : ℕ) (few before after : Option ℕ) → few ≡ None →
    after ≡ cond t (Some class) before → option_or few after ≡ cond t (Some class) (option_or few before)
one_more_behind t class few before after none e = rw none e

-- where those behind a name are numbered, and it gets its number
pub one_more_numbered : (names : List (List ℕ)) (number next : ℕ) (name other : List ℕ) (before after : Option ℕ) →
    number < length names → next ≡ number + 1 → name ≡ get_or names number name
    → before ≡ position_from (is_same other) next (drop next names) →
    after ≡ cond (is_same name other) (Some number) before
    → after ≡ position_from (is_same other) number (drop number names)
one_more_numbered names number next name other before after h same e numbered put =
    let here = at_drop_more (position_from (is_same other) number) names number name h in
    grind (arith, common_steps, put, same, e, numbered, nat_list_eq_equiv.symm name other, here)

pub all_numbered : (names : List (List ℕ)) (number : ℕ) (other : List ℕ) (found : Option ℕ) → number ≡ 0 →
    found ≡ position_from (is_same other) number (drop number names) → found ≡ position (is_same other) names
all_numbered names number other found same e =
    e ∙ ap (λ n. position_from (is_same other) n (drop n names)) same ∙ sym (position_from-zero (is_same other) names)
