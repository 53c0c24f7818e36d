-- What the way over the lexemes of a file tells.
use Rattle.std.proofs.Common.{◌≡◌, List, [], ◌∷◌, ◌++◌, Option, Some, None, refl, ◌∙◌, ap}
use Rattle.parser_machine.specs.Machine.{answer, finished, run, step}
use Rattle.parser_machine.specs.States.{State}
use Rattle.scj_base.specs.declared.positions.Position.{Position}
use Rattle.scj_tree.specs.Lexemes.{Lexeme, position_of_lexeme}
use Rattle.parser_steps.specs.Outcomes.{to, up_to, way}

-- the state of a way that goes over all lexemes
pub way_run : (st last : State) (i : List Lexeme) → way st i ≡ to last → (run st i ≡ Some last) ×
    (answer st i ≡ finished last)
unfolding way run answer
way_run st last [] e = (cc, cc)
way_run st last (t ∷ o) e = go (λ next h. way_run next last o h) (step st t) e
  where
    go : ((next : State) → way next o ≡ to last → (run next o ≡ Some last) × (answer next o ≡ finished last)) →
        (r : Option State) → elim r [ Some next ↦ way next o | None ↦ up_to (position_of_lexeme t) ] ≡ to last →
        (elim r [ Some next ↦ run next o | None ↦ None ] ≡ Some last) ×
        (elim r [ Some next ↦ answer next o | None ↦ None ] ≡ finished last)
    go f None e = cc
    go f (Some next) e = f next e

-- a way that stops at p: the lexemes before it, the lexeme itself and those behind it
pub record IsStopped (st : State) (i : List Lexeme) (p : Position) : Type 0 where
  pub before : List Lexeme
  pub refused : Lexeme
  pub behind : List Lexeme
  pub state : State
  pub whole : i ≡ before ++ refused ∷ behind
  pub reached : run st before ≡ Some state
  pub refuses : step state refused ≡ None
  pub place : position_of_lexeme refused ≡ p

pub way_stops : (st : State) (i : List Lexeme) (p : Position) → way st i ≡ up_to p → IsStopped st i p
unfolding way run
way_stops st [] p e = cc
way_stops st (t ∷ o) p e = go (λ next h. way_stops next o p h) (step st t) refl e
  where
    go : ((next : State) → way next o ≡ up_to p → IsStopped next o p) → (r : Option State) → step st t ≡ r →
        elim r [ Some next ↦ way next o | None ↦ up_to (position_of_lexeme t) ] ≡ up_to p → IsStopped st (t ∷ o) p
    go f None h e =
        record {
          before = [];
          refused = t;
          behind = o;
          state = st;
          whole = refl;
          reached = refl;
          refuses = h;
          place = cc;
        }
    go f (Some next) h e =
        let later = f next e in
        record {
          before = t ∷ later.before;
          refused = later.refused;
          behind = later.behind;
          state = later.state;
          whole = ap (λ l. t ∷ l) later.whole;
          reached = ap (λ r. elim r [ Some last ↦ run last later.before | None ↦ None ]) h ∙ later.reached;
          refuses = later.refuses;
          place = later.place;
        }

-- an answer behind a run is that of the rest
pub answer_behind : (st last : State) (i o : List Lexeme) → run st i ≡ Some last → answer st (i ++ o) ≡ answer last o
unfolding run answer
answer_behind st last [] o e = let same : st ≡ last = cc in rw same refl
answer_behind st last (u ∷ i) o e = go (λ next h. answer_behind next last i o h) (step st u) e
  where
    go : ((next : State) → run next i ≡ Some last → answer next (i ++ o) ≡ answer last o) → (r : Option State) →
        elim r [ Some next ↦ run next i | None ↦ None ] ≡ Some last →
        elim r [ Some next ↦ answer next (i ++ o) | None ↦ None ] ≡ answer last o
    go f None e = cc
    go f (Some next) e = f next e
