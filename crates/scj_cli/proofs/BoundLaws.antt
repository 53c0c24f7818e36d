-- A program has one text of its bounds.
use Rattle.std.specs.Prelude.{Option, Some, None, Contains, map}
use Rattle.std.proofs.Common.{◌≡◌, ℕ, List, [], ◌∷◌, true, false, refl, sym, ◌∙◌, ap, subst}
use Rattle.scj_tree.specs.Forest.{Forest, ChildrenFirst}
use Rattle.scj_tree.specs.Heights.{highest}
use Rattle.scj_tree.specs.Lexemes.{Lexeme}
use Rattle.machine_laws.proofs.GrowthOfFiles.{tree_grown}
use Rattle.scj_rules.specs.Contexts.{declarations_of}
use Rattle.scj_rules.specs.Syntax.{FilesRead, no_file, next_file, Reads}
use Rattle.scj_rules.proofs.ReportLemmas.{Contains-head, Contains-tail}
use Rattle.scj_rules.specs.declared.views.Body.{Body}
use Rattle.scj_model.specs.Code.{Code, code_of}
use Rattle.memory_needs.specs.declared.answers.BoundAnswer.{BoundAnswer}
use Rattle.memory_needs.specs.declared.answers.BoundRow.{BoundRow}
use Rattle.memory_needs.specs.Room.{HasRoom}
use Rattle.memory_needs.specs.Rows.{IsAnswer, IsRoom, IsStoreNeeded, ReportsStore, handler_classes, release_bytes, store_needed, is_no}
use Rattle.memory_needs.proofs.Agree.{highest_same, room_is_one}
use Rattle.memory_bounds.proofs.OneAnswer.{answers_are_one}
use Rattle.scj_cli.specs.BoundLists.{bound_list, IsBoundList}

-- ---- a program that is read has its children first

files_first : {before after : Forest} {lexemes : List (List Lexeme)} → FilesRead before lexemes after →
    ChildrenFirst 0 before.nodes → ChildrenFirst 0 after.nodes
files_first no_file h = h
files_first (next_file r d) h = files_first d ((tree_grown r.tree).first h)

read_first : {texts : List (List ℕ)} {forest : Forest} → Reads texts forest → ChildrenFirst 0 forest.nodes
unfolding ChildrenFirst
read_first reads = files_first reads.files_read tt

-- ---- the rows

abbrev class_of : BoundRow → ℕ
class_of row = row.handler

abbrev row_of : ℕ → BoundAnswer → BoundRow
row_of class answer = record { handler = class; answer = answer }

one_row : (code : Code) → ChildrenFirst 0 code.program.nodes → (a b : BoundRow) → a.handler ≡ b.handler →
    IsAnswer code a.handler a.answer → IsAnswer code b.handler b.answer → a ≡ b
one_row code first a b e x y =
    let same : a.answer ≡ b.answer =
    answers_are_one code first a.handler a.answer b.answer x (subst (λ class. IsAnswer code class b.answer) (sym e) y) in
    ap (λ class. row_of class a.answer) e ∙ ap (λ answer. row_of b.handler answer) same

first_same : (x y : ℕ) (xs ys : List ℕ) → x ∷ xs ≡ y ∷ ys → (x ≡ y) × (xs ≡ ys)
first_same x y xs ys e = (cc (e), cc (e))

same_rows : (code : Code) → ChildrenFirst 0 code.program.nodes → (rows again : List BoundRow) →
    map class_of rows ≡ map class_of again →
    ((row : BoundRow) → Contains rows row → IsAnswer code row.handler row.answer) →
    ((row : BoundRow) → Contains again row → IsAnswer code row.handler row.answer) → rows ≡ again
same_rows code first [] [] e h k = refl
same_rows code first [] (b ∷ again) e h k = absurd (cc (e))
same_rows code first (a ∷ rows) [] e h k = absurd (cc (e))
same_rows code first (a ∷ rows) (b ∷ again) e h k =
    let parts = first_same a.handler b.handler (map class_of rows) (map class_of again) e in
    let p : a ≡ b = one_row code first a b parts.0 (h a (Contains-head a rows)) (k b (Contains-head b again)) in
    let q : rows ≡ again =
    same_rows code first rows again parts.1 (λ row c. h row (Contains-tail a rows row c))
    (λ row c. k row (Contains-tail b again row c)) in
    cc (p, q)

-- ---- the store

one_room : (code : Code) → ChildrenFirst 0 code.program.nodes → (class m n : ℕ) → IsRoom code class m →
    IsRoom code class n → m ≡ n
one_room code first class m n x y =
    let both : Some x.body ≡ Some y.body = sym x.is_body ∙ y.is_body in
    let same : x.body ≡ y.body = cc (both) in
    room_is_one code first x.body m n x.is (subst (λ (body : Body). HasRoom code body n) (sym same) y.is)

one_store : (code : Code) → ChildrenFirst 0 code.program.nodes → (m n : ℕ) → IsStoreNeeded code m →
    IsStoreNeeded code n → m ≡ n
unfolding store_needed
one_store code first m n x y =
    let same : highest (release_bytes code.program x.rooms) (handler_classes code.program)
    ≡ highest (release_bytes code.program y.rooms) (handler_classes code.program) =
    highest_same (release_bytes code.program x.rooms) (release_bytes code.program y.rooms) (handler_classes code.program)
    (λ class c. rooms_agree class (one_room code first class (x.rooms class) (y.rooms class) (x.are_rooms class c)
    (y.are_rooms class c))) in
    x.is ∙ (stores same ∙ sym y.is)
  where
    rooms_agree : (class : ℕ) → x.rooms class ≡ y.rooms class →
        release_bytes code.program x.rooms class ≡ release_bytes code.program y.rooms class
    rooms_agree class e = cc (e)

    stores : highest (release_bytes code.program x.rooms) (handler_classes code.program)
        ≡ highest (release_bytes code.program y.rooms) (handler_classes code.program) →
        store_needed code.program x.rooms ≡ store_needed code.program y.rooms
    stores e = cc (e)

-- a row with No, where no row has it
no_and_not : {A : Type 0} (row : BoundRow) → is_no row.answer ≡ true → is_no row.answer ≡ false → A
no_and_not row is isnt = let both : true ≡ false = sym is ∙ isnt in absurd (cc (both))

one_need : (code : Code) → ChildrenFirst 0 code.program.nodes → (rows : List BoundRow) (need again : Option ℕ) →
    ReportsStore code rows need → ReportsStore code rows again → need ≡ again
one_need code first rows None None x y = refl
one_need code first rows (Some m) (Some n) x y = ap (λ k. Some k) (one_store code first m n x.1 y.1)
one_need code first rows None (Some n) x y = no_and_not x.0 x.2 (y.0 x.0 x.1)
one_need code first rows (Some m) None x y = no_and_not y.0 y.2 (x.0 y.0 y.1)

-- ---- the text

module _ (forest : Forest) (first : ChildrenFirst 0 (code_of forest).program.nodes) (names : List (List ℕ)) where
  one_text : (a b : List ℕ) → IsBoundList forest names a → IsBoundList forest names b → a ≡ b
  one_text a b x y =
      let rows : x.rows ≡ y.rows =
      same_rows (code_of forest) first x.rows y.rows (x.are_rows.of_handlers ∙ sym y.are_rows.of_handlers)
      x.are_rows.are_answers y.are_rows.are_answers in
      let need : x.need ≡ y.need =
      one_need (code_of forest) first y.rows x.need y.need
      (subst (λ rows. ReportsStore (code_of forest) rows x.need) rows x.reports_store) y.reports_store in
      x.is_text
      ∙ (ap (λ rows. bound_list (declarations_of forest) names rows x.need) rows
      ∙ (ap (λ need. bound_list (declarations_of forest) names y.rows need) need ∙ sym y.is_text))

pub one_bound_list : (texts : List (List ℕ)) (forest : Forest) (names : List (List ℕ)) (a b : List ℕ) →
    Reads texts forest → IsBoundList forest names a → IsBoundList forest names b → a ≡ b
unfolding code_of declarations_of
one_bound_list texts forest names a b reads x y = one_text forest (read_first reads) names a b x y
