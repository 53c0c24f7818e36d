-- What the nodes of a small program stand for: locals, fields, methods, classes and arrays by their numbers.
use Rattle.std.proofs.Common.{◌≡◌, ℕ, [], ◌∷◌, refl, Some, None, codes, true, false, Bool}
use Rattle.scj_base.specs.declared.positions.Position.{Position}
use Rattle.scj_tree.specs.declared.nodes.Node.TheVariants.{Assign, Binary, Block, Call, Cast, Class, ClassType, Constructor, Element, ExpressionStatement, Field, FieldAccess, Flags, IntType, LocalWithValue, Method as MethodNode, NewArray, Number, Parameter, Parameters, Return, SimpleName, SuperCall, SuperType, Supers, Text, This}
use Rattle.scj_tree.specs.Forest.{Forest}
use Rattle.scj_rules.specs.declared.typing.Binding.TheVariants.{Plain, Local as LocalVariable, Field as InstanceField, Static, Length, Class as ClassNamed, Method, StaticMethod, Builtin}
use Rattle.scj_rules.specs.declared.typing.Target.{Target}
use Rattle.scj_rules.specs.Contexts.{declarations_of}
use Rattle.scj_rules.specs.Bindings.{bindings_in}
use Rattle.scj_rules.proofs.Computing.{computing}

abbrev at : ℕ → ℕ → ℕ → Position
at file line col = record { file = file; line = line; col = col }

abbrev on : ℕ → ℕ → Bool → Target
on id class gives = record { id = id; on = class; gives = gives }

abbrev pub small_program : Forest
small_program =
    record {
      nodes =
          IntType (at 0 1 11) false
          ∷ Field (at 0 1 15) (codes "f") None 0 None None
          ∷ Flags (at 0 1 18) None None None true false false
          ∷ IntType (at 0 1 25) false
          ∷ Field (at 0 1 29) (codes "s") (Some 2) 3 None None
          ∷ ClassType (at 0 1 32) (codes "Q") None false
          ∷ Field (at 0 1 34) (codes "q") None 5 None None
          ∷ IntType (at 0 1 37) false
          ∷ IntType (at 0 1 43) false
          ∷ Parameter (at 0 1 47) (codes "a") None 8
          ∷ Parameters (at 0 1 42) (9 ∷ [])
          ∷ IntType (at 0 1 52) false
          ∷ SimpleName (at 0 1 60) (codes "a")
          ∷ LocalWithValue (at 0 1 58) (at 0 1 56) (codes "b") None 11 12
          ∷ SimpleName (at 0 1 70) (codes "b")
          ∷ This (at 0 1 74)
          ∷ FieldAccess (at 0 1 79) (codes "f") 15
          ∷ Binary (at 0 1 72) 17 14 16
          ∷ SimpleName (at 0 1 83) (codes "s")
          ∷ Binary (at 0 1 81) 17 17 18
          ∷ SimpleName (at 0 1 87) (codes "q")
          ∷ FieldAccess (at 0 1 89) (codes "f") 20
          ∷ Binary (at 0 1 85) 17 19 21
          ∷ Return (at 0 1 63) (Some 22)
          ∷ Block (at 0 1 50) (13 ∷ 23 ∷ [])
          ∷ MethodNode (at 0 1 41) (codes "g") None 7 (Some 10) (Some 24)
          ∷ Flags (at 0 1 94) None None None true false false
          ∷ IntType (at 0 1 101) false
          ∷ ClassType (at 0 1 107) (codes "Q") None false
          ∷ Parameter (at 0 1 109) (codes "x") None 28
          ∷ Parameters (at 0 1 106) (29 ∷ [])
          ∷ SimpleName (at 0 1 121) (codes "x")
          ∷ Number (at 0 1 125) 1 false
          ∷ Call (at 0 1 123) (codes "g") (Some 31) (32 ∷ [])
          ∷ SimpleName (at 0 1 132) (codes "x")
          ∷ Call (at 0 1 130) (codes "h") None (34 ∷ [])
          ∷ Binary (at 0 1 128) 17 33 35
          ∷ Return (at 0 1 114) (Some 36)
          ∷ Block (at 0 1 112) (37 ∷ [])
          ∷ MethodNode (at 0 1 105) (codes "h") (Some 26) 27 (Some 30) (Some 38)
          ∷ Class (at 0 1 7) (codes "Q") None None (1 ∷ 4 ∷ 6 ∷ 25 ∷ 39 ∷ [])
          ∷ SuperType (at 0 2 17) (codes "Q") None
          ∷ Supers (at 0 2 9) (Some 41) []
          ∷ IntType (at 0 2 21) true
          ∷ Field (at 0 2 27) (codes "a") None 43 None None
          ∷ ClassType (at 0 2 30) (codes "Q") None true
          ∷ Field (at 0 2 34) (codes "b") None 45 None None
          ∷ SuperCall (at 0 2 43) []
          ∷ SimpleName (at 0 2 52) (codes "a")
          ∷ IntType (at 0 2 60) false
          ∷ Number (at 0 2 64) 1 false
          ∷ NewArray (at 0 2 56) 49 50
          ∷ Assign (at 0 2 54) 48 51
          ∷ SimpleName (at 0 2 68) (codes "b")
          ∷ ClassType (at 0 2 76) (codes "Q") None false
          ∷ Number (at 0 2 78) 2 false
          ∷ NewArray (at 0 2 72) 54 55
          ∷ Assign (at 0 2 70) 53 56
          ∷ SimpleName (at 0 2 82) (codes "f")
          ∷ SimpleName (at 0 2 86) (codes "a")
          ∷ FieldAccess (at 0 2 88) (codes "length") 59
          ∷ Assign (at 0 2 84) 58 60
          ∷ ClassType (at 0 2 96) (codes "Object") None false
          ∷ SimpleName (at 0 2 111) (codes "b")
          ∷ Number (at 0 2 113) 0 false
          ∷ Element (at 0 2 112) 63 64
          ∷ Cast (at 0 2 107) (at 0 2 108) (codes "Q") 65
          ∷ LocalWithValue (at 0 2 105) (at 0 2 103) (codes "o") None 62 66
          ∷ SimpleName (at 0 2 117) (codes "Trace")
          ∷ Text (at 0 2 129) (codes "x")
          ∷ SimpleName (at 0 2 134) (codes "Q")
          ∷ FieldAccess (at 0 2 136) (codes "s") 70
          ∷ Call (at 0 2 123) (codes "print") (Some 68) (69 ∷ 71 ∷ [])
          ∷ ExpressionStatement (at 0 2 123) 72
          ∷ Block (at 0 2 41) (52 ∷ 57 ∷ 61 ∷ 67 ∷ 73 ∷ [])
          ∷ Constructor (at 0 2 37) (codes "A") None None (Some 47) 74
          ∷ Class (at 0 2 7) (codes "A") None (Some 42) (44 ∷ 46 ∷ 75 ∷ [])
          ∷ [];
      files = ((40 ∷ 76 ∷ []) ∷ []);
    }

small_program_bindings :
    bindings_in (declarations_of small_program) ≡
    Plain ∷ InstanceField 0 ∷ Plain ∷ Plain ∷ Static 1 ∷ Plain ∷ InstanceField 2 ∷ Plain ∷ Plain ∷ LocalVariable 0
    ∷ Plain ∷ Plain ∷ LocalVariable 0 ∷ LocalVariable 1 ∷ LocalVariable 1 ∷ Plain ∷ InstanceField 0 ∷ Plain
    ∷ Static 1 ∷ Plain ∷ InstanceField 2 ∷ InstanceField 0 ∷ Plain ∷ Plain ∷ Plain ∷ Plain ∷ Plain ∷ Plain ∷ Plain
    ∷ LocalVariable 0 ∷ Plain ∷ LocalVariable 0 ∷ Plain ∷ Method (on 20 16 true) ∷ LocalVariable 0
    ∷ StaticMethod (on 21 16 true) ∷ Plain ∷ Plain ∷ Plain ∷ Plain ∷ ClassNamed 0 ∷ Plain ∷ Plain ∷ Plain
    ∷ InstanceField 3 ∷ Plain ∷ InstanceField 4 ∷ ClassNamed 16 ∷ InstanceField 3 ∷ Plain ∷ Plain ∷ ClassNamed 18
    ∷ Plain ∷ InstanceField 4 ∷ Plain ∷ Plain ∷ ClassNamed 36 ∷ Plain ∷ InstanceField 0 ∷ InstanceField 3 ∷ Length
    ∷ Plain ∷ Plain ∷ InstanceField 4 ∷ Plain ∷ Plain ∷ ClassNamed 16 ∷ LocalVariable 0 ∷ ClassNamed 9 ∷ Plain
    ∷ ClassNamed 16 ∷ Static 1 ∷ Builtin (on 17 9 false) ∷ Plain ∷ Plain ∷ ClassNamed 16 ∷ ClassNamed 16 ∷ []
unfolding computing
small_program_bindings = refl
