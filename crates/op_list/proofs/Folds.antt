-- Lists of parts that are laid out from the last to the first, and loops.
use Rattle.std.proofs.Common.{◌≡◌, ℕ, zero, suc, ◌+◌, ◌-◌, ◌<◌, ◌≤◌, List, [], ◌∷◌, ◌++◌, length, drop, map, flat_map, Some, slice_get, slice_set, true, false, append_assoc, refl, sym, ap, ◌∙◌, subst, arith}
use Rattle.scj_tree.specs.Forest.{Forest, IsForest}
use Rattle.scj_tree.specs.declared.nodes.Node.{Node}
use Rattle.scj_rules.specs.Contexts.{declarations_of}
use Rattle.scj_rules.specs.declared.views.Declared.{Declared}
use Rattle.scj_rules.specs.Layout.{fields_with_literal}
use Rattle.accepted_laws.proofs.Typed.{behind_children}
use Rattle.object_layout.specs.ObjectTables.{nodes_of_fields}
use Rattle.scj_model.specs.declared.operations.Op.{Op}
use Rattle.scj_model.specs.declared.operations.Op.TheVariants.{Init as INIT, Leave as LEAVE}
use Rattle.scj_model.specs.Code.{Code, code_of}
use Rattle.scj_model.specs.Ops.{ops_of, literal_ops, put_in_front}
use Rattle.op_list.specs.declared.parts.Part.{Part}
use Rattle.op_list.specs.Parts.{part_ops, parts_at}
use Rattle.op_list.specs.declared.rows.Row.{Row}
use Rattle.op_list.specs.declared.choices.Choice.TheVariants.{Plain}
use Rattle.op_list.specs.Choices.{choice_of, IsPartBelow}
use Rattle.op_list.specs.Rows.{row_of, IsLaid}
use Rattle.op_list.proofs.Gives.{gives}
use Rattle.op_list.proofs.Layouts.{laid_front, laid_nothing, laid_loop}
use Rattle.op_list.proofs.Patches.{set_here, drop_here, drop_behind}
use Rattle.op_list.proofs.PartsBelow.{parts_below, one_below}

pub laid_as : (code : Code) (before after : List Row) (xs ys : List Op) (next index : ℕ) → xs ≡ ys →
    IsLaid code before after xs next index → IsLaid code before after ys next index
laid_as code before after xs ys next index e l = subst (λ ops. IsLaid code before after ops next index) e l

-- one item in front of those behind it
pub laid_item : {A : Type 0} (code : Code) (before rows after : List Row) (ops : A → List Op) (xs : List A) (i : ℕ)
    (item : A) (next at index : ℕ) → 0 < i → slice_get xs (i - 1) ≡ Some item →
    IsLaid code before rows (flat_map ops (drop i xs)) next at → IsLaid code rows after (ops item) at index →
    IsLaid code before after (flat_map ops (drop (i - 1) xs)) next index
laid_item {A} code before rows after ops xs i item next at index h there back front =
    let step : drop (i - 1) xs ≡ item ∷ drop (i - 1 + 1) xs = drop_here xs (i - 1) item there in
    let same : i - 1 + 1 ≡ i = omega (arith, h) in
    laid_as code before after (ops item ++ flat_map ops (drop i xs)) (flat_map ops (drop (i - 1) xs)) next index
    (sym (ap (flat_map ops) (step ∙ ap (λ (k : ℕ). item ∷ drop k xs) same)))
    (laid_front code before rows after (ops item) (flat_map ops (drop i xs)) next at index back front)

pub no_items : {A : Type 0} (code : Code) (rows : List Row) (ops : A → List Op) (xs : List A) (i next : ℕ) →
    length xs ≤ i → next < length rows → IsLaid code rows rows (flat_map ops (drop i xs)) next next
no_items code rows ops xs i next h inside =
    laid_as code rows rows [] (flat_map ops (drop i xs)) next next (sym (ap (flat_map ops) (drop_behind xs i h)))
    (laid_nothing code rows next inside)

-- ---- the parts of a node

module _ (forest : Forest) (whole : IsForest forest) (id : ℕ) where
  abbrev code : Code
  code = code_of forest

  pub parts_give : flat_map (part_ops code (ops_of code)) (parts_at code id) ≡ ops_of code id
  unfolding code_of
  parts_give = gives code id (behind_children forest whole)

  pub part_below : (k : ℕ) (part : Part) → slice_get (parts_at code id) k ≡ Some part →
      IsPartBelow forest.nodes id part
  unfolding code_of declarations_of
  part_below k part there =
      one_below forest.nodes id (parts_at code id) (parts_below code (behind_children forest whole) id) k part there

-- ---- literals

abbrev pub one_init : ℕ → List Op
one_init node = INIT node ∷ []

inits : (i : ℕ) (fields : List Declared) → drop i (map (λ (f : Declared). INIT f.node) fields)
    ≡ flat_map one_init (drop i (map (λ (f : Declared). f.node) fields))
inits zero [] = refl
inits zero (f ∷ fs) = ap (λ (os : List Op). INIT f.node ∷ os) (inits zero fs)
inits (suc i) [] = refl
inits (suc i) (f ∷ fs) = inits i fs

pub literals_are : (forest layout : Forest) (class i : ℕ) (fields : List ℕ) → layout ≡ forest →
    fields ≡ nodes_of_fields (fields_with_literal (declarations_of layout) class) →
    flat_map one_init (drop i fields) ≡ drop i (literal_ops (code_of forest) class)
unfolding literal_ops code_of
literals_are forest layout class i fields same is =
    ap (λ fs. flat_map one_init (drop i fs)) (is ∙ ap (λ f. nodes_of_fields (fields_with_literal (declarations_of f) class)) same)
    ∙ sym (inits i (fields_with_literal (declarations_of forest) class))

pub init_plain : (nodes : List Node) (x : ℕ) → choice_of nodes (INIT x) ≡ Plain
unfolding choice_of
init_plain nodes x = refl

pub leave_plain : (nodes : List Node) → choice_of nodes LEAVE ≡ Plain
unfolding choice_of
leave_plain nodes = refl

-- ---- loops

-- a loop, whose row is put, whose turn is laid out, and whose row is set
pub laid_set : (code : Code) (before one two after : List Row) (op : Op) (turn : List Op) (next index start : ℕ) →
    next < length before →
    ((front : List Op) → put_in_front code op true ≡ Some front → turn ++ op ∷ [] ≡ front) →
    ((front : List Op) → put_in_front code op false ≡ Some front → [] ≡ front) →
    one ≡ before ++ row_of code op next next next ∷ [] → index ≡ length before →
    IsLaid code one two turn index start →
    after ≡ slice_set two index (row_of code op next start next) →
    IsLaid code before after (op ∷ []) next index
laid_set code before one two after op turn next index start inside if_true if_false put at l set =
    let empty : Row = row_of code op next next next in
    let last : Row = row_of code op next start next in
    let moved : IsLaid code (before ++ empty ∷ []) two turn (length before) start =
    subst (λ (k : ℕ). IsLaid code (before ++ empty ∷ []) two turn k start) at
    (subst (λ (rows : List Row). IsLaid code rows two turn index start) put l) in
    let whole : two ≡ before ++ empty ∷ moved.longer.grown.0 =
    moved.longer.grown.1 ∙ append_assoc before (empty ∷ []) moved.longer.grown.0 in
    let is : after ≡ before ++ last ∷ moved.longer.grown.0 =
    set ∙ ap (λ (rows : List Row). slice_set rows index last) whole
    ∙ ap (λ (k : ℕ). slice_set (before ++ empty ∷ moved.longer.grown.0) k last) at
    ∙ set_here before moved.longer.grown.0 empty last in
    subst (λ (k : ℕ). IsLaid code before after (op ∷ []) next k) (sym at)
    (subst (λ (rows : List Row). IsLaid code before rows (op ∷ []) next (length before)) (sym is)
    (laid_loop code before two op turn next start inside if_true if_false moved))
