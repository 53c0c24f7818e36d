-- The parameters of a method beside those above.
use Rattle.std.specs.Prelude.{ℕ, Bool, slice_get}
use Rattle.scj_rules.specs.declared.views.Declared.{Declared}
use Rattle.scj_rules.specs.Words.{holds}
use Rattle.scj_rules.specs.Classes.{FoundMethod}
use Rattle.scj_rules.specs.Contexts.{Declarations}
use Rattle.scj_rules.specs.StaticScopes.{parameter_scope}
use Rattle.scj_rules.specs.AnnotationRules.{seen_in, differ}

-- the parameters of a number differ, where both methods have one
abbrev pub parameters_differ_at : Declarations → FoundMethod → FoundMethod → ℕ → Bool
parameters_differ_at p f g i =
    holds (slice_get f.method.parameters i)
    (λ (d : Declared). holds (slice_get g.method.parameters i) (λ (e : Declared).
    differ (parameter_scope p f.on f.method d) (seen_in p f.on (parameter_scope p g.on g.method e))))
