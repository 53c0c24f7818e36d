-- What is known where no target is due.
use Rattle.std.proofs.Common.{◌≡◌, ℕ, false, List, [], ◌∷◌, length, refl}
use Rattle.parser_machine.specs.Closing.{closed}
use Rattle.parser_machine.specs.Operands.{awaits_target, name_sign_step, post_ended, post_step}
use Rattle.parser_machine.specs.declared.entries.Entry.{Entry}
use Rattle.parser_machine.specs.declared.entries.Entry.TheVariants.{Target}
use Rattle.scj_base.specs.declared.positions.Position.{Position}
use Rattle.scj_tree.specs.Nodes.{put}
use Rattle.scj_tree.specs.Lexemes.{Lexeme, a_sign}
use Rattle.scj_tree.specs.declared.nodes.Node.{Node}
use Rattle.scj_tree.specs.declared.nodes.Node.TheVariants.{SimpleName}
use Rattle.scj_tree.specs.declared.parsed_parts.PostKind.{PostKind}
use Rattle.scj_tree.specs.declared.parsed_parts.PostKind.TheVariants.{Variable}

pub not_due_behind : (kind : PostKind) (p : Position) (id : ℕ) (N : List Node) (s : List Entry) (t : Lexeme) →
    awaits_target s ≡ false → post_ended kind p id N s t ≡ closed id N s t
unfolding awaits_target post_ended
not_due_behind kind p id N [] t h = refl
not_due_behind kind p id N (Target ∷ s) t h = cc
not_due_behind kind p id N (_ ∷ s) t h = refl

pub not_due_at_name : (p : Position) (w : List ℕ) (N : List Node) (s : List Entry) (n : ℕ) (q : Position) →
    awaits_target s ≡ false → name_sign_step p w N s n q ≡ post_step Variable p (length N) (put N (SimpleName p w)) s
    (a_sign n q)
unfolding awaits_target name_sign_step
not_due_at_name p w N [] n q h = refl
not_due_at_name p w N (Target ∷ s) n q h = cc
not_due_at_name p w N (_ ∷ s) n q h = refl
