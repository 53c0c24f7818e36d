-- Names of which an earlier one is the same.
use Rattle.std.proofs.Common.{◌≡◌, arith, ℕ, ◌||◌, true, not, cond, List, [], ◌∷◌, ◌++◌, map, filter_map, flat_map, refl, ap}
use Rattle.std.specs.List.{list_any}
use Rattle.std.specs.BTreeMap.{is_at}
use Rattle.std.specs.Cmp.Lexicographic.{slice_cmp}
use Rattle.std.specs.Ordering.{nat_cmp}
use Rattle.std.proofs.lemmas.Map.Text.{is_eq-slice_cmp}
use Rattle.std.proofs.lemmas.List.Folds.{flat_map-map}
use Rattle.std.proofs.lemmas.Grind.{common_steps}
use Rattle.std.proofs.lemmas.Cmp.{nat_list_eq_equiv}
use Rattle.scj_base.specs.Bytes.{is_same, is_one_of}
use Rattle.scj_base.specs.declared.findings.Found.{Found}
use Rattle.scj_base.specs.declared.findings.Rule.{Rule}
use Rattle.scj_base.specs.declared.findings.Rule.TheVariants.{C4}
use Rattle.scj_tree.specs.Forest.{Forest}
use Rattle.scj_rules.specs.declared.scopes.Written.{Written}
use Rattle.scj_rules.specs.declared.views.Declared.{Declared}
use Rattle.scj_rules.specs.Classes.{user_row}
use Rattle.scj_rules.specs.Contexts.{declarations_of}
use Rattle.scj_rules.specs.Words.{named_twice, broken, broken_at_each}
use Rattle.scj_rules.specs.ClassRules.{c4}
use Rattle.scj_rules.specs.Views.{field_at}
use Rattle.node_views.specs.Parts.{naming}
use Rattle.class_headers.proofs.PartLemmas.{map_filter_map}
use Rattle.class_rules.specs.declared.parts.ClassParts.{ClassParts}
use Rattle.class_rules.specs.Parts.{row_of}
use Rattle.class_rules.specs.Members.{hiding, left_twice, member_name}

abbrev twice : List (List ℕ) → List Written → List Written
twice known ws = named_twice (λ (w : Written). w.name) known ws

twice_alike : (known there : List (List ℕ)) (ws : List Written) →
    ((n : List ℕ) → is_one_of n known ≡ is_one_of n there) → twice known ws ≡ twice there ws
unfolding named_twice
twice_alike known there [] h = refl
twice_alike known there (w ∷ ws) h =
    let later = twice_alike (w.name ∷ known) (w.name ∷ there) ws (λ n. ap (λ b. is_same n w.name || b) (h n)) in
    grind (arith, common_steps, h w.name, later)

-- a key of the set is found by the order as by its bytes
pub known_in_order : (n : List ℕ) (keys : List (List ℕ)) → list_any (is_at (slice_cmp nat_cmp n)) keys ≡ is_one_of n keys
known_in_order n [] = refl
known_in_order n (k ∷ keys) = λ i. is_eq-slice_cmp n k i || known_in_order n keys i

pub name_noted : (found : List Found) (known after : List (List ℕ)) (rule : Rule) (w : Written) (others : List Written)
    → ((n : List ℕ) → is_one_of n after ≡ cond (is_same w.name n) true (is_one_of n known))
    → (found ++ broken (not (not (is_one_of w.name known))) rule w.position) ++ left_twice rule after others
    ≡ found ++ left_twice rule known (w ∷ others)
unfolding left_twice named_twice
name_noted found known after rule w others h =
    let same = twice_alike after (w.name ∷ known) others
    (λ n. let turned = nat_list_eq_equiv.symm w.name n in grind (arith, common_steps, h n, turned)) in
    grind (arith, common_steps, same)

-- ---- fields by their names alone

abbrev places : List Declared → List Found
places = broken_at_each (λ (f : Declared). f.position) C4

fields_twice : (known : List (List ℕ)) (fs : List Declared) →
    left_twice C4 known (map naming fs) ≡ places (named_twice (λ (f : Declared). f.name) known fs)
unfolding left_twice named_twice
fields_twice known [] = refl
fields_twice known (f ∷ fs) = grind (arith, common_steps, fields_twice (f.name ∷ known) fs)

pub c4_named : (forest : Forest) (class : ℕ) (c : ClassParts) (found after whole : List Found)
    → after ≡ found ++ left_twice C4 [] (filter_map (member_name C4 forest.nodes) c.members.now)
    → whole ≡ after
    ++ flat_map (hiding (declarations_of forest) class) (filter_map (member_name C4 forest.nodes) c.members.now)
    → whole ≡ found ++ c4 (declarations_of forest) class (row_of forest c)
unfolding c4 hiding member_name user_row declarations_of
c4_named forest class c found after whole e h =
    let fields = filter_map (field_at forest.nodes) c.members.now in
    let names = map_filter_map naming (field_at forest.nodes) c.members.now in
    let hidden = flat_map-map (hiding (declarations_of forest) class) naming fields in
    grind (arith, common_steps, e, h, names, fields_twice [] fields, hidden)
