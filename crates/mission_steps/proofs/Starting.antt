-- The first operation of a release, by its cases.
use Rattle.std.specs.Prelude.{Option, Some, None, codes}
use Rattle.std.proofs.Common.{◌≡◌, ◌∙◌, ℕ, refl, ap, sym}
use Rattle.scj_rules.specs.declared.views.Body.{Body}
use Rattle.scj_rules.specs.Words.{◌>>=◌}
use Rattle.scj_rules.specs.Bodies.{body_named}
use Rattle.scj_rules.specs.ScopeRules.{defined_by_chain}
use Rattle.scj_model.specs.declared.handlers.HandlerRow.{HandlerRow}
use Rattle.scj_model.specs.Code.{Code}
use Rattle.scj_model.specs.State.{Release, State}
use Rattle.scj_model.specs.Steps.{Step}
use Rattle.scj_model.specs.Registry.{handler_row}
use Rattle.scj_model.specs.Run.{start_op, started_with}

module _ (code : Code) (s : State) (index : ℕ) (r : Release) where
  abbrev begins : Option HandlerRow → Option Step
  begins found =
      found >>= (λ (row : HandlerRow). defined_by_chain code.program row.class >>= (λ scope.
      body_named code.program row.class (codes "handleAsyncEvent") >>= (λ body.
      Some (started_with code s index row scope body))))

  pub begins_as : (found : Option HandlerRow) → found ≡ handler_row s.registry r.handler →
      start_op code s index r ≡ begins found
  unfolding start_op
  begins_as found e = ap begins (sym e)

  pub no_row : None ≡ handler_row s.registry r.handler → start_op code s index r ≡ None
  no_row e = begins_as None e

  module _ (row : HandlerRow) (there : Some row ≡ handler_row s.registry r.handler) where
    pub no_private_scope : defined_by_chain code.program row.class ≡ None → start_op code s index r ≡ None
    no_private_scope e = begins_as (Some row) there ∙ (rw e refl)

    pub no_body : (scope : ℕ) → defined_by_chain code.program row.class ≡ Some scope →
        body_named code.program row.class (codes "handleAsyncEvent") ≡ None → start_op code s index r ≡ None
    no_body scope e f = begins_as (Some row) there ∙ (rw (e, f) refl)

    pub begins_with : (scope : ℕ) (body : Body) → defined_by_chain code.program row.class ≡ Some scope →
        body_named code.program row.class (codes "handleAsyncEvent") ≡ Some body →
        start_op code s index r ≡ Some (started_with code s index row scope body)
    begins_with scope body e f = begins_as (Some row) there ∙ (rw (e, f) refl)
