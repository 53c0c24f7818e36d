-- The names of classes and the labels of a program that was read.
use Rattle.std.proofs.Common.{◌≡◌, ℕ, zero, suc, ◌+◌, Bool, true, false, List, [], ◌∷◌, ◌++◌, map, Option, Some, None, if◌then◌else◌, refl, sym, ap, ◌∙◌, subst}
use Rattle.std.specs.Prelude.{filter_map, slice_get, unwrap_or}
use Rattle.std.specs.List.{cons_option, list_all}
use Rattle.scj_base.specs.Lexeme.{is_letter, is_name, is_name_byte, is_digit, is_text_byte}
use Rattle.scj_base.specs.Vocabulary.{words}
use Rattle.scj_builtins.specs.declared.classes.FrameworkClass.{FrameworkClass}
use Rattle.scj_builtins.specs.Framework.{framework_classes, object}
use Rattle.scj_tree.specs.Forest.{Forest}
use Rattle.scj_tree.specs.declared.nodes.Node.{Node}
use Rattle.scj_tree.specs.declared.nodes.Node.TheVariants as node
use Rattle.scj_rules.specs.Classes.{ClassRow, class_names, class_nodes, counted_from, counted_row, framework_row, framework_rows_from, is_well_headed, user_classes, user_row, written_rows}
use Rattle.scj_rules.specs.Contexts.{declarations_of}
use Rattle.scj_rules.specs.Views.{WrittenClass, class_at, class_of}
use Rattle.scj_rules.specs.Words.{◌>>=◌}
use Rattle.scj_model.specs.TraceText.{bytes_of_text, label}
use Rattle.source_nodes.specs.Nodes.{HasWords, NodesFit}

-- ---- labels

pub labels_fit : (nodes : List Node) (files longest : ℕ) → NodesFit nodes files longest → (id : ℕ) →
    list_all is_text_byte (label nodes id) ≡ true
unfolding bytes_of_text HasWords
labels_fit nodes files longest fit id = go (slice_get nodes id) refl
  where
    go : (o : Option Node) → slice_get nodes id ≡ o →
        list_all is_text_byte
        (elim (o >>= bytes_of_text) as (λ _. List ℕ) [ None ↦ [] | Some bytes ↦ bytes ]) ≡ true
    go None e = refl
    go (Some (node.Text position bytes)) e = fit.words id (node.Text position bytes) e
    go (Some _) e = refl

-- ---- names of rows

abbrev AreNamed : List ClassRow → Type 0
AreNamed [] = Unit {0}
AreNamed (row ∷ rows) = (is_name row.name ≡ true) × AreNamed rows

named_at : (rows : List ClassRow) (class : ℕ) (row : ClassRow) → AreNamed rows → slice_get rows class ≡ Some row →
    is_name row.name ≡ true
named_at [] class row h e = absurd (cc (e))
named_at (x ∷ rows) zero row h e =
    subst (λ (y : ClassRow). is_name y.name ≡ true) (ap (λ (o : Option ClassRow). unwrap_or o x) e) h.0
named_at (x ∷ rows) (suc class) row h e = named_at rows class row h.1 e

named_both : (xs ys : List ClassRow) → AreNamed xs → AreNamed ys → AreNamed (xs ++ ys)
named_both [] ys h k = k
named_both (x ∷ xs) ys h k = (h.0, named_both xs ys h.1 k)

counted_name : (names : List (List ℕ)) (rows : List ClassRow) (class : ℕ) (row : ClassRow) →
    (counted_row names rows class row).name ≡ row.name
unfolding counted_row
counted_name names rows class row = go row.written
  where
    pick : (b : Bool) → (if b then row else record row { superclass = Some object; interfaces = [] }).name ≡ row.name
    pick true = refl
    pick false = refl

    go : (o : Option WrittenClass) →
        (elim o as (λ _. ClassRow) [
          | None ↦ row
          | Some c ↦
              if is_well_headed names rows class c then row else record row { superclass = Some object; interfaces = [] }
        ]).name ≡ row.name
    go None = refl
    go (Some c) = pick (is_well_headed names rows class c)

counted_named : (names : List (List ℕ)) (all : List ClassRow) (class : ℕ) (rows : List ClassRow) → AreNamed rows →
    AreNamed (counted_from names all class rows)
unfolding counted_from
counted_named names all class [] h = tt
counted_named names all class (row ∷ rows) h =
    (ap is_name (counted_name names all class row) ∙ h.0, counted_named names all (class + 1) rows h.1)

-- the framework's
abbrev NamesFit : List FrameworkClass → Type 0
NamesFit [] = Unit {0}
NamesFit (c ∷ cs) = (is_name c.name ≡ true) × NamesFit cs

framework_named : (number : ℕ) (cs : List FrameworkClass) → NamesFit cs → AreNamed (framework_rows_from number cs)
unfolding framework_rows_from framework_row
framework_named number [] h = tt
framework_named number (c ∷ cs) h = (h.0, framework_named (number + 1) cs h.1)

framework_names : NamesFit framework_classes
unfolding framework_classes is_name is_letter is_name_byte is_digit words
framework_names =
    (refl, (refl, (refl, (refl, (refl, (refl, (refl, (refl, (refl, (refl, (refl, (refl, (refl, (refl, (refl, (refl, tt))))))))))))))))

-- the program's
abbrev AreWritten : List WrittenClass → Type 0
AreWritten [] = Unit {0}
AreWritten (c ∷ cs) = (is_name c.name ≡ true) × AreWritten cs

user_named : (nodes : List Node) (names : List (List ℕ)) (cs : List WrittenClass) → AreWritten cs →
    AreNamed (map (user_row nodes names) cs)
unfolding user_row
user_named nodes names [] h = tt
user_named nodes names (c ∷ cs) h = (h.0, user_named nodes names cs h.1)

record IsWritten (o : Option WrittenClass) : Type 0 where
  is : (c : WrittenClass) → o ≡ Some c → is_name c.name ≡ true

written_at : (nodes : List Node) (files longest : ℕ) → NodesFit nodes files longest → (id : ℕ) →
    IsWritten (class_at nodes id)
unfolding class_of HasWords
written_at nodes files longest fit id = go (slice_get nodes id) refl
  where
    go : (o : Option Node) → slice_get nodes id ≡ o → IsWritten (o >>= class_of nodes id)
    go None e = record { is = λ c f. absurd (cc (f)) }
    go (Some (node.Class position name flags header members)) e =
        record {
          is = λ c f.
              ap is_name (sym (ap (λ (o : Option WrittenClass). name_or name o) f))
              ∙ fit.words id (node.Class position name flags header members) e;
        }
      where
        name_or : List ℕ → Option WrittenClass → List ℕ
        name_or n o = elim o [ None ↦ n | Some c ↦ c.name ]
    go (Some _) e = record { is = λ c f. absurd (cc (f)) }

all_written : (nodes : List Node) (files longest : ℕ) → NodesFit nodes files longest → (ids : List ℕ) →
    AreWritten (filter_map (class_at nodes) ids)
all_written nodes files longest fit [] = tt
all_written nodes files longest fit (id ∷ ids) =
    go (class_at nodes id) (written_at nodes files longest fit id) (all_written nodes files longest fit ids)
  where
    go : (o : Option WrittenClass) → IsWritten o → AreWritten (filter_map (class_at nodes) ids) →
        AreWritten (cons_option o (filter_map (class_at nodes) ids))
    go None h more = more
    go (Some c) h more = (h.is c refl, more)

pub classes_are_named : (forest : Forest) (files longest : ℕ) → NodesFit forest.nodes files longest → (class : ℕ)
    (row : ClassRow) → slice_get (declarations_of forest).classes class ≡ Some row → is_name row.name ≡ true
unfolding declarations_of user_classes written_rows
classes_are_named forest files longest fit class row e =
    named_at (declarations_of forest).classes class row
    (counted_named (class_names (user_classes forest)) (written_rows forest.nodes (user_classes forest)) 0
    (written_rows forest.nodes (user_classes forest))
    (named_both (framework_rows_from 0 framework_classes) _ (framework_named 0 framework_classes framework_names)
    (user_named forest.nodes (class_names (user_classes forest)) (user_classes forest)
    (all_written forest.nodes files longest fit (class_nodes forest))))) e
