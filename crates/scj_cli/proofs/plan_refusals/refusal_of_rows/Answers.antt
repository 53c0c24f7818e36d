use Rattle.run_plan.specs.PlanOf.{not_toml, bad_key, bad_value}
use Rattle.scj_cli.proofs.plan_refusals.refusal_of_rows.Goals as goal

pub returns-in_ok-not_toml-in-NotToml : goal.returns-in_ok-not_toml-in-NotToml
returns-in_ok-not_toml-in-NotToml c =
    λ meaning tells. (not_toml, rw c.in-NotToml.is at tells, c.in_ok-not_toml-in-NotToml.ensures)

pub returns-in_ok-bad_key-in-BadKey : goal.returns-in_ok-bad_key-in-BadKey
returns-in_ok-bad_key-in-BadKey c = λ meaning tells. (
  bad_key c.in-BadKey.key,
  rw c.in-BadKey.is at tells,
  rw (← c.key.view_is) (rw c.deref.ensures at c.in_ok-bad_key-in-BadKey.ensures),
)

pub returns-in_ok-bad_value-in-BadValue : goal.returns-in_ok-bad_value-in-BadValue
returns-in_ok-bad_value-in-BadValue c = λ meaning tells. (
  bad_value c.in-BadValue.key,
  rw c.in-BadValue.is at tells,
  rw (← c.key-in-BadValue.view_is) (rw c.deref-in-BadValue.ensures at c.in_ok-bad_value-in-BadValue.ensures),
)
