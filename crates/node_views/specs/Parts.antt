-- Parts of what is declared.
use Rattle.scj_rules.specs.declared.scopes.Written.{Written}
use Rattle.scj_rules.specs.declared.views.Declared.{Declared}

-- its name, and where it is named
abbrev pub naming : Declared → Written
naming d = record { name = d.name; position = d.position }
