use Rattle.std.proofs.Common.{List, ◌++◌, ◌∷◌, [], sym, ap, ◌∙◌, append_assoc}
use Rattle.scj_rules.specs.Bodies.{class_of_body}
use Rattle.scj_rules.specs.Contexts.{declarations_of}
use Rattle.scj_tree.specs.Forest.{Forest}
use Rattle.scj_model.specs.Code.{code_of}
use Rattle.op_list.specs.declared.parts.Part.{Part}
use Rattle.op_list.specs.declared.parts.Part.TheVariants.{Literals}
use Rattle.op_list.specs.Parts.{body_parts}
use Rattle.op_list.proofs.CodeLemmas.{constructor_is}
use Rattle.op_list.proofs.constructors.constructor_parts.Goals as goal

pub returns-in-Some : goal.returns-in-Some
unfolding code_of
returns-in-Some c =
    let at = ap (λ (f : Forest). class_of_body (declarations_of f) c.args.id) (sym c.layout.ensures)
    ∙ sym c.class_of_body.ensures ∙ c.in-Some.is in
    c.put_body.ensures ∙ ap (λ (ps : List Part). ps ++ body_parts c.args.body) c.push.ensures
    ∙ append_assoc c.first_parts-parts.result (Literals 0 c.in-Some.class ∷ []) (body_parts c.args.body)
    ∙ ap (λ (ps : List Part). ps ++ (Literals 0 c.in-Some.class ∷ body_parts c.args.body)) c.first_parts-parts.ensures.value
    ∙ sym (constructor_is (code_of c.args.code.now) c.args.id c.args.super_call c.args.body c.in-Some.class at)
