-- A type with a static scope, as one value: what an expression is judged to be, and where a value of one kind may go.
use Rattle.std.specs.Prelude.{◌≡◌, ℕ, true, ◌⊎◌, List, [], ◌∷◌, Option, Some, None}
use Rattle.scj_rules.specs.declared.typing.Ty.{Ty}
use Rattle.scj_rules.specs.declared.typing.Ty.TheVariants.{Int, Bool as Boolean, NullTy, Class as ClassTy, IntArray, BoolArray, ClassArray}
use Rattle.scj_rules.specs.declared.typing.Scope.{Scope}
use Rattle.scj_rules.specs.declared.typing.Scope.TheVariants.{Any, This, Caller, In, Unknown, Lost}
use Rattle.scj_rules.specs.declared.views.Declared.{Declared}
use Rattle.scj_rules.specs.Words.{◌>>=◌}
use Rattle.scj_rules.specs.Views.{variable_at}
use Rattle.scj_rules.specs.Contexts.{Declarations, in_class}
use Rattle.scj_rules.specs.Types.{assigns}
use Rattle.scj_rules.specs.TypeRules.{declared_type_of}
use Rattle.scj_rules.specs.StaticScopes.{beside, field_scope}
use Rattle.scj_rules.specs.UseRules.{variable_scope_at}

-- a number, a truth value, or a reference of a type and in a scope. Of operands a machine also says `yes`, the literal
-- true, and `fresh`, a reference to a new object
pub data Kind : Type 0 where
  number : Kind
  truth : Kind
  yes : Kind
  reference : (type : Ty) (scope : Scope) → Kind
  fresh : (class : ℕ) (scope : Scope) → Kind

unfoldable pub kind_of : Option Ty → Option Scope → Option Kind
kind_of (Some Int) s = Some number
kind_of (Some Boolean) s = Some truth
kind_of (Some NullTy) s = Some (reference NullTy Any)
kind_of (Some (ClassTy class)) (Some s) = Some (reference (ClassTy class) s)
kind_of (Some IntArray) (Some s) = Some (reference IntArray s)
kind_of (Some BoolArray) (Some s) = Some (reference BoolArray s)
kind_of (Some (ClassArray class)) (Some s) = Some (reference (ClassArray class) s)
kind_of _ _ = None

-- of a variable by its node, of a field, and of what a body gives
unfoldable pub kind_of_variable : Declarations → ℕ → Option Kind
kind_of_variable p v = kind_of (variable_at p.nodes v >>= declared_type_of p) (variable_scope_at p v)

unfoldable pub kind_of_field : Declarations → Declared → Option Kind
kind_of_field p d = kind_of (declared_type_of p d) (in_class p d.node (λ class. field_scope p class d))

-- ---- a scope as one sees it who knows what THIS and CALLER are: what lies in THIS lies beside the object
unfoldable pub seen_as : Scope → Scope → Scope → Scope
seen_as home now This = beside home
seen_as home now Caller = now
seen_as home now s = s

unfoldable pub seen_kind : Scope → Scope → Kind → Kind
seen_kind home now (reference t s) = reference t (seen_as home now s)
seen_kind home now k = k

unfoldable pub seen_kinds : Scope → Scope → List Kind → List Kind
seen_kinds home now [] = []
seen_kinds home now (k ∷ ks) = seen_kind home now k ∷ seen_kinds home now ks

unfoldable pub seen_option : Scope → Scope → Option Kind → Option Kind
seen_option home now None = None
seen_option home now (Some k) = Some (seen_kind home now k)

-- a scope that names an area. That of null names none, and of UNKNOWN and LOST nobody knows it
abbrev pub NamesArea : Scope → Type 0
NamesArea This = Unit {0}
NamesArea Caller = Unit {0}
NamesArea (In n) = Unit {0}
NamesArea _ = ⊥

-- a reference of scope s may go to a place of scope t, which is another's: seen with that one's THIS and CALLER. Any
-- may go to a place that is unknown. Where THIS is null, anything may go there, since nothing ever does
abbrev pub GoesTo : Scope → Scope → Scope → Scope → Type 0
GoesTo home now s t =
    (s ≡ Any) ⊎ ((t ≡ Unknown) ⊎ ((NamesArea s × (s ≡ seen_as home now t)) ⊎ ((t ≡ This) × (home ≡ Any))))

abbrev pub Fits : Declarations → Scope → Scope → Kind → Kind → Type 0
Fits p home now number number = Unit {0}
Fits p home now truth truth = Unit {0}
Fits p home now yes truth = Unit {0}
Fits p home now (reference t s) (reference u r) = (assigns p.classes t u ≡ true) × GoesTo home now s r
Fits p home now _ _ = ⊥

-- the kind of a place of the same type, of which no scope is asked
unfoldable pub unscoped : Kind → Kind
unscoped (reference t s) = reference t Unknown
unscoped k = k

abbrev pub AllFit : Declarations → Scope → Scope → List Kind → List Kind → Type 0
AllFit p home now [] [] = Unit {0}
AllFit p home now (j ∷ js) (k ∷ ks) = Fits p home now j k × AllFit p home now js ks
AllFit p home now [] (k ∷ ks) = ⊥
AllFit p home now (j ∷ js) [] = ⊥

-- a callee with this RunsIn may be called on an object of scope `home` where `now` is current
abbrev pub RunsHere : Scope → Scope → Scope → Type 0
RunsHere home now r =
    (r ≡ Caller) ⊎ (((r ≡ This) × ((home ≡ Any) ⊎ (home ≡ now))) ⊎ ((n : ℕ) × (r ≡ In n) × (now ≡ In n)))

-- the scopes that declarations have: Any is that of null alone
abbrev pub IsReal : Scope → Type 0
IsReal Any = ⊥
IsReal _ = Unit {0}

abbrev pub IsRealKind : Kind → Type 0
IsRealKind (reference t s) = IsReal s
IsRealKind _ = Unit {0}
