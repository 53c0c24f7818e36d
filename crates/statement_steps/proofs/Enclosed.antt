-- A statement that ends with its last part.
use Rattle.std.proofs.Common.{◌≡◌, ℕ, Bool, true, false, List, ◌∷◌, length, Option, Some, None, refl, if◌then◌else◌}
use Rattle.parser_machine.specs.Members.{is_else, statement_ended}
use Rattle.parser_machine.specs.States.{State}
use Rattle.parser_machine.specs.declared.entries.Entry.{Entry}
use Rattle.parser_machine.specs.declared.entries.Entry.TheVariants.{ForBody, IfElse, IfThen, WhileBody}
use Rattle.scj_tree.specs.Nodes.{put}
use Rattle.scj_tree.specs.Lexemes.{Lexeme}
use Rattle.scj_tree.specs.declared.nodes.Node.{Node}
use Rattle.statement_steps.specs.Enclosing.{enclosing}

without_else : (b : Bool) (x y : Option State) (node made : Node) → (if b then None else Some made) ≡ Some node →
    (if b then x else y) ≡ y
without_else true x y node made e = cc
without_else false x y node made e = refl

made_is : (b : Bool) (node made : Node) → (if b then None else Some made) ≡ Some node → made ≡ node
made_is true node made e = cc
made_is false node made e = cc

some_is : (node made : Node) → Some made ≡ Some node → made ≡ node
some_is node made e = cc

pub enclosed : (e : Entry) (id : ℕ) (N : List Node) (s : List Entry) (t : Lexeme) (node : Node) →
    enclosing e t id ≡ Some node → statement_ended id N (e ∷ s) t ≡ statement_ended (length N) (put N node) s t
unfolding enclosing statement_ended
enclosed (IfThen p c) id N s t node e = rw (← made_is (is_else t) node _ e) (without_else (is_else t) _ _ node _ e)
enclosed (IfElse p c a) id N s t node e = rw (← some_is node _ e) refl
enclosed (WhileBody p c) id N s t node e = rw (← some_is node _ e) refl
enclosed (ForBody p f c u) id N s t node e = rw (← some_is node _ e) refl
enclosed _ id N s t node e = cc
