-- A state that differs in its releases, its handlers or its unit: how the clauses name what a call leads to.
use Rattle.std.specs.Prelude.{ℕ, List, map}
use Rattle.scj_model.specs.declared.handlers.HandlerRow.{HandlerRow}
use Rattle.scj_model.specs.State.{Release, State}
use Rattle.scj_model.specs.Apply.{dropped_release}

abbrev pub with_list : State → List Release → State
with_list s releases = record s { releases = releases }

abbrev pub all_let_go : State → State
all_let_go s = with_list s (map dropped_release s.releases)

abbrev pub with_registry : State → List HandlerRow → State
with_registry s registry = record s { registry = registry }

abbrev pub at_unit : State → ℕ → State
at_unit s unit = record s { unit = unit }
