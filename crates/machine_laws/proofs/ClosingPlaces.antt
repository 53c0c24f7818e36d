-- The machine refuses a lexeme only where no file goes on with it.
use Rattle.std.proofs.Common.{ap, refl, subst, sym, ◌∙◌}
use Rattle.std.specs.Prelude.{List, None, Option, Some, [], ◌++◌, ◌∷◌, ◌≡◌}
use Rattle.machine_laws.proofs.ClosingModes.{kept_closes}
use Rattle.machine_laws.proofs.ClosingNeeds.{Kept}
use Rattle.machine_laws.proofs.ClosingSteps.{run_kept, start_kept}
use Rattle.machine_laws.proofs.Soundness.{answer_is_tree}
use Rattle.machine_laws.proofs.Tools.{after}
use Rattle.machine_laws.proofs.Whole.{no_file_behind}
use Rattle.parser_machine.specs.Machine.{answer, run, start, step}
use Rattle.parser_machine.specs.States.{State}
use Rattle.scj_tree.specs.Grammar.{BeginsFile, RefusedAt}
use Rattle.scj_tree.specs.Lexemes.{Lexeme, position_of_lexeme}
use Rattle.scj_tree.specs.declared.nodes.Node.{Node}

-- an answer and a run go over a run
unfoldable pub running_on : Option State → List Lexeme → Option State
running_on r i = elim r [ Some last ↦ run last i | None ↦ None ]

answered_on : (r : Option State) (i o : List Lexeme) → ((last : State) → after (run last i) o ≡ answer last (i ++ o)) →
    after (running_on r i) o ≡ after r (i ++ o)
unfolding after running_on
answered_on None i o f = refl
answered_on (Some last) i o f = f last

pub answer_over : (i : List Lexeme) (st : State) (o : List Lexeme) → after (run st i) o ≡ answer st (i ++ o)
unfolding after run answer running_on
answer_over [] st o = refl
answer_over (t ∷ i) st o = answered_on (step st t) i o (λ last. answer_over i last o)

ran_on : (r : Option State) (i o : List Lexeme) → ((last : State) → run last (i ++ o) ≡ running_on (run last i) o) →
    running_on r (i ++ o) ≡ running_on (running_on r i) o
unfolding running_on
ran_on None i o f = refl
ran_on (Some last) i o f = f last

pub run_over : (i : List Lexeme) (st : State) (o : List Lexeme) → run st (i ++ o) ≡ running_on (run st i) o
unfolding run running_on
run_over [] st o = refl
run_over (t ∷ i) st o = ran_on (step st t) i o (λ last. run_over i last o)

-- what the machine takes begins a file
pub run_begins : (N : List Node) (i : List Lexeme) (st : State) → run (start N) i ≡ Some st → BeginsFile N i
unfolding after
run_begins N i st e =
    let c = kept_closes (subst Kept e (run_kept i (start N) (start_kept N))) in
    record {
      rest = c.rest;
      nodes = c.nodes;
      classes = c.classes;
      tree = answer_is_tree N (i ++ c.rest)
          (sym (answer_over i (start N) c.rest) ∙ (ap (λ r. after r c.rest) e ∙ c.reached));
    }

stops : (i : List Lexeme) (t : Lexeme) (first last : State) → run first i ≡ Some last → step last t ≡ None →
    run first (i ++ t ∷ []) ≡ None
unfolding run running_on
stops i t first last e f = run_over i first (t ∷ []) ∙ (ap (λ r. running_on r (t ∷ [])) e ∙ ap (λ r. running_on r []) f)

pub refused_at : (N : List Node) (before behind : List Lexeme) (t : Lexeme) (st : State) →
    run (start N) before ≡ Some st → step st t ≡ None → RefusedAt N (before ++ t ∷ behind) (position_of_lexeme t)
refused_at N before behind t st e f = record {
  before = before;
  refused = t;
  behind = behind;
  whole = refl;
  begins = run_begins N before st e;
  ends = no_file_behind N (before ++ t ∷ []) (stops before t (start N) st e f);
  place = refl;
}
