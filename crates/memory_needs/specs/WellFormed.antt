-- What the pass asks of a program; each that breaks no rule has it.
use Rattle.std.specs.Prelude.{◌≡◌, ℕ, ◌<◌, length, Some, Contains}
use Rattle.scj_rules.specs.declared.views.Body.TheVariants.{Written}
use Rattle.scj_rules.specs.Definitions.{read}
use Rattle.scj_rules.specs.Bodies.{number_literal}
use Rattle.scj_model.specs.Code.{Code}
use Rattle.memory_needs.specs.Reach.{handler_body}
use Rattle.memory_needs.specs.Need.{too_much}
use Rattle.memory_needs.specs.Causes.{storage_node}
use Rattle.memory_needs.specs.Rows.{handler_classes}

-- numbers are below the ceiling, and each concrete handler class has its method and its storage
pub record IsWellFormed (code : Code) : Type 0 where
  pub small : (id n : ℕ) → read code.program.nodes number_literal id ≡ Some n → n < too_much
  pub handles : (class : ℕ) → Contains (handler_classes code.program) class →
      (node : ℕ) × (handler_body code class ≡ Some (Written node)) × (node < length code.program.nodes)
  pub stored : (class : ℕ) → Contains (handler_classes code.program) class →
      (number : ℕ) × (storage_node code.program class ≡ Some number)
