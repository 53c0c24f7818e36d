-- The lexemes of a file have one tree, or one break of the grammar.
use Rattle.std.proofs.Common.{◌≡◌, ℕ, List, [], ◌∷◌, ◌++◌, length, ap, sym, ◌∙◌}
use Rattle.std.proofs.lemmas.Option.{none-some, same_Some}
use Rattle.scj_base.specs.declared.findings.Found.{Found}
use Rattle.scj_base.specs.declared.findings.Rule.{Rule}
use Rattle.scj_base.specs.declared.positions.Position.{Position}
use Rattle.scj_tree.specs.declared.nodes.Node.{Node}
use Rattle.scj_tree.specs.Forest.{Forest, forest_of}
use Rattle.scj_tree.specs.Lexemes.{Lexeme}
use Rattle.scj_tree.specs.Heights.{too_deep}
use Rattle.machine_laws.proofs.ClosingOnce.{one_place, tree_not_refused}
use Rattle.machine_laws.proofs.Whole.{one_tree_nodes, one_tree_classes}
use Rattle.scj_tree.specs.Files.{FileRead, BreaksGrammar}
use Rattle.scj_tree.specs.Files.BreaksGrammar.{not_in_the_grammar, too_high}

abbrev found_of : Rule → Position → Found
found_of r p = record { rule = r; pos = p }

pub same_found : (one other : Found) → one.rule ≡ other.rule → one.pos ≡ other.pos → one ≡ other
same_found one other e f = ap (λ r. found_of r one.pos) e ∙ ap (λ p. found_of other.rule p) f

pub one_outcome : (before one other : Forest) (lexemes : List Lexeme) → FileRead before lexemes one →
    FileRead before lexemes other → one ≡ other
one_outcome before one other lexemes a b =
    let nodes : one.nodes ≡ other.nodes = one_tree_nodes a.tree b.tree in
    let classes : a.classes ≡ b.classes = one_tree_classes a.tree b.tree in
    let files : one.files ≡ other.files =
    a.files ∙ (ap (λ (ids : List ℕ). before.files ++ ids ∷ []) classes ∙ sym b.files) in
    ap (λ (n : List Node). forest_of n one.files) nodes ∙ ap (λ (f : List (List ℕ)). forest_of other.nodes f) files

pub not_read_and_broken : (before after : Forest) (lexemes : List Lexeme) (found : Found) →
    FileRead before lexemes after → BreaksGrammar before.nodes lexemes found → ⊥
not_read_and_broken before after lexemes found read (not_in_the_grammar is refused) =
    tree_not_refused _ _ _ _ _ read.tree refused
not_read_and_broken before after lexemes found read (too_high is high) =
    none-some _
    (sym read.is_low
    ∙ (ap (λ (n : List Node). too_deep (length before.nodes) n) (one_tree_nodes read.tree high.tree)
    ∙ high.is_high))

pub one_break : (nodes : List Node) (lexemes : List Lexeme) (one other : Found) → BreaksGrammar nodes lexemes one →
    BreaksGrammar nodes lexemes other → one ≡ other
one_break nodes lexemes one other (not_in_the_grammar is refused) (not_in_the_grammar is_too refused_too) =
    same_found one other (is ∙ sym is_too) (one_place nodes lexemes _ _ refused refused_too)
one_break nodes lexemes one other (not_in_the_grammar is refused) (too_high is_too high) =
    absurd (tree_not_refused _ _ _ _ _ high.tree refused)
one_break nodes lexemes one other (too_high is high) (not_in_the_grammar is_too refused) =
    absurd (tree_not_refused _ _ _ _ _ high.tree refused)
one_break nodes lexemes one other (too_high is high) (too_high is_too high_too) =
    same_found one other (is ∙ sym is_too)
    (same_Some _ _
    (sym high.is_high ∙ (ap (λ (n : List Node). too_deep (length nodes) n) (one_tree_nodes high.tree high_too.tree)
    ∙ high_too.is_high)))
