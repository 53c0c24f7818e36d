-- The definitions at small programs: a store into an own field, an override that runs elsewhere, a scope that is
-- defined twice, a cycle of scopes, parents and classes that don't suit a scope.
use Rattle.std.proofs.Common.{◌≡◌, ℕ, [], ◌∷◌, refl, Some, None, codes, true, false}
use Rattle.scj_base.specs.declared.findings.Found.{Found}
use Rattle.scj_base.specs.declared.findings.Rule.{Rule}
use Rattle.scj_base.specs.declared.findings.Rule.TheVariants.{A6, E5, S1, S2, S3, S4, S5, S6}
use Rattle.scj_base.specs.declared.positions.Position.{Position}
use Rattle.scj_tree.specs.declared.nodes.Node.TheVariants.{Assign, Binary, Block, Call, Class, ClassType, Constructor, DefineScope, ExpressionStatement, Field, FieldAccess, Flags, IntType, LocalWithValue, LongType, Method, New, Null, Number, Return, ScopeName, SimpleName, SuperType, Supers, Text, This, Unary, VoidType}
use Rattle.scj_tree.specs.Forest.{Forest}
use Rattle.scj_rules.specs.Contexts.{declarations_of}
use Rattle.scj_rules.specs.Phases.{class_phase, type_phase, scope_phase, use_phase, IsAccepted}
use Rattle.scj_rules.proofs.Computing.{computing}
use Rattle.scj_rules.proofs.AcceptedLemmas.{accepted}

abbrev at : ℕ → ℕ → ℕ → Position
at file line col = record { file = file; line = line; col = col }

abbrev found : Rule → Position → Found
found rule position = record { pos = position; rule = rule }

abbrev pub own_field : Forest
own_field =
    record {
      nodes =
          SuperType (at 0 1 22) (codes "Safelet") None
          ∷ Supers (at 0 1 11) None (0 ∷ [])
          ∷ ClassType (at 0 2 10) (codes "MissionSequencer") None false
          ∷ Null (at 0 2 51)
          ∷ Return (at 0 2 44) (Some 3)
          ∷ Block (at 0 2 42) (4 ∷ [])
          ∷ Method (at 0 2 27) (codes "getSequencer") None 2 None (Some 5)
          ∷ LongType (at 0 3 10)
          ∷ Number (at 0 3 45) 64 false
          ∷ Return (at 0 3 38) (Some 8)
          ∷ Block (at 0 3 36) (9 ∷ [])
          ∷ Method (at 0 3 15) (codes "immortalMemorySize") None 7 None (Some 10)
          ∷ VoidType (at 0 4 10)
          ∷ IntType (at 0 5 5) false
          ∷ Number (at 0 5 13) 2147483648 true
          ∷ LocalWithValue (at 0 5 11) (at 0 5 9) (codes "m") None 13 14
          ∷ SimpleName (at 0 5 26) (codes "Trace")
          ∷ Text (at 0 5 38) (codes "a")
          ∷ SimpleName (at 0 5 43) (codes "m")
          ∷ Number (at 0 5 48) 1 false
          ∷ Unary (at 0 5 47) 18 19
          ∷ Binary (at 0 5 45) 20 18 20
          ∷ Call (at 0 5 32) (codes "print") (Some 16) (17 ∷ 21 ∷ [])
          ∷ ExpressionStatement (at 0 5 32) 22
          ∷ SimpleName (at 0 6 5) (codes "Trace")
          ∷ Text (at 0 6 17) (codes "b")
          ∷ SimpleName (at 0 6 22) (codes "m")
          ∷ Number (at 0 6 27) 1 false
          ∷ Unary (at 0 6 26) 18 27
          ∷ Binary (at 0 6 24) 21 26 28
          ∷ Call (at 0 6 11) (codes "print") (Some 24) (25 ∷ 29 ∷ [])
          ∷ ExpressionStatement (at 0 6 11) 30
          ∷ SimpleName (at 0 6 31) (codes "Trace")
          ∷ Text (at 0 6 43) (codes "c")
          ∷ Number (at 0 6 48) 1 false
          ∷ Number (at 0 6 53) 33 false
          ∷ Binary (at 0 6 50) 29 34 35
          ∷ Call (at 0 6 37) (codes "print") (Some 32) (33 ∷ 36 ∷ [])
          ∷ ExpressionStatement (at 0 6 37) 37
          ∷ Block (at 0 4 39) (15 ∷ 23 ∷ 31 ∷ 38 ∷ [])
          ∷ Method (at 0 4 15) (codes "initializeApplication") None 12 None (Some 39)
          ∷ Class (at 0 1 7) (codes "App") None (Some 1) (6 ∷ 11 ∷ 40 ∷ [])
          ∷ Class (at 1 1 7) (codes "D") None None []
          ∷ ClassType (at 1 3 3) (codes "D") None false
          ∷ Field (at 1 3 5) (codes "f") None 43 None None
          ∷ This (at 1 4 9)
          ∷ FieldAccess (at 1 4 14) (codes "f") 45
          ∷ New (at 1 4 18) (at 1 4 22) (codes "D") []
          ∷ Assign (at 1 4 16) 46 47
          ∷ Block (at 1 4 7) (48 ∷ [])
          ∷ Constructor (at 1 4 3) (codes "C") None None None 49
          ∷ VoidType (at 1 5 3)
          ∷ This (at 1 5 14)
          ∷ FieldAccess (at 1 5 19) (codes "f") 52
          ∷ New (at 1 5 23) (at 1 5 27) (codes "D") []
          ∷ Assign (at 1 5 21) 53 54
          ∷ Block (at 1 5 12) (55 ∷ [])
          ∷ Method (at 1 5 8) (codes "m") None 51 None (Some 56)
          ∷ Class (at 1 2 7) (codes "C") None None (44 ∷ 50 ∷ 57 ∷ [])
          ∷ [];
      files = ((41 ∷ []) ∷ (42 ∷ 58 ∷ []) ∷ []);
    }

own_field_class : class_phase (declarations_of own_field) ≡ []
unfolding computing
own_field_class = refl

own_field_type : type_phase (declarations_of own_field) ≡ []
unfolding computing
own_field_type = refl

own_field_scope : scope_phase (declarations_of own_field) ≡ []
unfolding computing
own_field_scope = refl

own_field_broken : use_phase (declarations_of own_field) ≡ found E5 (at 1 5 21) ∷ []
unfolding computing
own_field_broken = refl

abbrev pub own_field_in_constructor : Forest
own_field_in_constructor =
    record {
      nodes =
          SuperType (at 0 1 22) (codes "Safelet") None
          ∷ Supers (at 0 1 11) None (0 ∷ [])
          ∷ ClassType (at 0 2 10) (codes "MissionSequencer") None false
          ∷ Null (at 0 2 51)
          ∷ Return (at 0 2 44) (Some 3)
          ∷ Block (at 0 2 42) (4 ∷ [])
          ∷ Method (at 0 2 27) (codes "getSequencer") None 2 None (Some 5)
          ∷ LongType (at 0 3 10)
          ∷ Number (at 0 3 45) 64 false
          ∷ Return (at 0 3 38) (Some 8)
          ∷ Block (at 0 3 36) (9 ∷ [])
          ∷ Method (at 0 3 15) (codes "immortalMemorySize") None 7 None (Some 10)
          ∷ VoidType (at 0 4 10)
          ∷ IntType (at 0 5 5) false
          ∷ Number (at 0 5 13) 2147483648 true
          ∷ LocalWithValue (at 0 5 11) (at 0 5 9) (codes "m") None 13 14
          ∷ SimpleName (at 0 5 26) (codes "Trace")
          ∷ Text (at 0 5 38) (codes "a")
          ∷ SimpleName (at 0 5 43) (codes "m")
          ∷ Number (at 0 5 48) 1 false
          ∷ Unary (at 0 5 47) 18 19
          ∷ Binary (at 0 5 45) 20 18 20
          ∷ Call (at 0 5 32) (codes "print") (Some 16) (17 ∷ 21 ∷ [])
          ∷ ExpressionStatement (at 0 5 32) 22
          ∷ SimpleName (at 0 6 5) (codes "Trace")
          ∷ Text (at 0 6 17) (codes "b")
          ∷ SimpleName (at 0 6 22) (codes "m")
          ∷ Number (at 0 6 27) 1 false
          ∷ Unary (at 0 6 26) 18 27
          ∷ Binary (at 0 6 24) 21 26 28
          ∷ Call (at 0 6 11) (codes "print") (Some 24) (25 ∷ 29 ∷ [])
          ∷ ExpressionStatement (at 0 6 11) 30
          ∷ SimpleName (at 0 6 31) (codes "Trace")
          ∷ Text (at 0 6 43) (codes "c")
          ∷ Number (at 0 6 48) 1 false
          ∷ Number (at 0 6 53) 33 false
          ∷ Binary (at 0 6 50) 29 34 35
          ∷ Call (at 0 6 37) (codes "print") (Some 32) (33 ∷ 36 ∷ [])
          ∷ ExpressionStatement (at 0 6 37) 37
          ∷ Block (at 0 4 39) (15 ∷ 23 ∷ 31 ∷ 38 ∷ [])
          ∷ Method (at 0 4 15) (codes "initializeApplication") None 12 None (Some 39)
          ∷ Class (at 0 1 7) (codes "App") None (Some 1) (6 ∷ 11 ∷ 40 ∷ [])
          ∷ Class (at 1 1 7) (codes "D") None None []
          ∷ ClassType (at 1 3 3) (codes "D") None false
          ∷ Field (at 1 3 5) (codes "f") None 43 None None
          ∷ This (at 1 4 9)
          ∷ FieldAccess (at 1 4 14) (codes "f") 45
          ∷ New (at 1 4 18) (at 1 4 22) (codes "D") []
          ∷ Assign (at 1 4 16) 46 47
          ∷ Block (at 1 4 7) (48 ∷ [])
          ∷ Constructor (at 1 4 3) (codes "C") None None None 49
          ∷ Class (at 1 2 7) (codes "C") None None (44 ∷ 50 ∷ [])
          ∷ [];
      files = ((41 ∷ []) ∷ (42 ∷ 51 ∷ []) ∷ []);
    }

in_constructor_class : class_phase (declarations_of own_field_in_constructor) ≡ []
unfolding computing
in_constructor_class = refl

in_constructor_type : type_phase (declarations_of own_field_in_constructor) ≡ []
unfolding computing
in_constructor_type = refl

in_constructor_scope : scope_phase (declarations_of own_field_in_constructor) ≡ []
unfolding computing
in_constructor_scope = refl

in_constructor_use : use_phase (declarations_of own_field_in_constructor) ≡ []
unfolding computing
in_constructor_use = refl

abbrev pub other_runs_in : Forest
other_runs_in =
    record {
      nodes =
          SuperType (at 0 1 22) (codes "Safelet") None
          ∷ Supers (at 0 1 11) None (0 ∷ [])
          ∷ ClassType (at 0 2 10) (codes "MissionSequencer") None false
          ∷ Null (at 0 2 51)
          ∷ Return (at 0 2 44) (Some 3)
          ∷ Block (at 0 2 42) (4 ∷ [])
          ∷ Method (at 0 2 27) (codes "getSequencer") None 2 None (Some 5)
          ∷ LongType (at 0 3 10)
          ∷ Number (at 0 3 45) 64 false
          ∷ Return (at 0 3 38) (Some 8)
          ∷ Block (at 0 3 36) (9 ∷ [])
          ∷ Method (at 0 3 15) (codes "immortalMemorySize") None 7 None (Some 10)
          ∷ VoidType (at 0 4 10)
          ∷ IntType (at 0 5 5) false
          ∷ Number (at 0 5 13) 2147483648 true
          ∷ LocalWithValue (at 0 5 11) (at 0 5 9) (codes "m") None 13 14
          ∷ SimpleName (at 0 5 26) (codes "Trace")
          ∷ Text (at 0 5 38) (codes "a")
          ∷ SimpleName (at 0 5 43) (codes "m")
          ∷ Number (at 0 5 48) 1 false
          ∷ Unary (at 0 5 47) 18 19
          ∷ Binary (at 0 5 45) 20 18 20
          ∷ Call (at 0 5 32) (codes "print") (Some 16) (17 ∷ 21 ∷ [])
          ∷ ExpressionStatement (at 0 5 32) 22
          ∷ SimpleName (at 0 6 5) (codes "Trace")
          ∷ Text (at 0 6 17) (codes "b")
          ∷ SimpleName (at 0 6 22) (codes "m")
          ∷ Number (at 0 6 27) 1 false
          ∷ Unary (at 0 6 26) 18 27
          ∷ Binary (at 0 6 24) 21 26 28
          ∷ Call (at 0 6 11) (codes "print") (Some 24) (25 ∷ 29 ∷ [])
          ∷ ExpressionStatement (at 0 6 11) 30
          ∷ SimpleName (at 0 6 31) (codes "Trace")
          ∷ Text (at 0 6 43) (codes "c")
          ∷ Number (at 0 6 48) 1 false
          ∷ Number (at 0 6 53) 33 false
          ∷ Binary (at 0 6 50) 29 34 35
          ∷ Call (at 0 6 37) (codes "print") (Some 32) (33 ∷ 36 ∷ [])
          ∷ ExpressionStatement (at 0 6 37) 37
          ∷ Block (at 0 4 39) (15 ∷ 23 ∷ 31 ∷ 38 ∷ [])
          ∷ Method (at 0 4 15) (codes "initializeApplication") None 12 None (Some 39)
          ∷ Class (at 0 1 7) (codes "App") None (Some 1) (6 ∷ 11 ∷ 40 ∷ [])
          ∷ ScopeName (at 1 1 19) (codes "M")
          ∷ ScopeName (at 1 1 31) (codes "IMMORTAL")
          ∷ DefineScope (at 1 1 1) 42 43 false
          ∷ Flags (at 1 1 1) (Some 44) None None false true false
          ∷ SuperType (at 1 1 69) (codes "Mission") None
          ∷ Supers (at 1 1 61) (Some 46) []
          ∷ Class (at 1 1 58) (codes "Mi") (Some 45) (Some 47) []
          ∷ VoidType (at 1 2 11)
          ∷ Block (at 1 2 20) []
          ∷ Method (at 1 2 16) (codes "m") None 49 None (Some 50)
          ∷ Class (at 1 2 7) (codes "C") None None (51 ∷ [])
          ∷ ScopeName (at 1 3 8) (codes "M")
          ∷ Flags (at 1 3 1) None (Some 53) None false false false
          ∷ SuperType (at 1 3 29) (codes "C") None
          ∷ Supers (at 1 3 21) (Some 55) []
          ∷ VoidType (at 1 3 33)
          ∷ Block (at 1 3 42) []
          ∷ Method (at 1 3 38) (codes "m") None 57 None (Some 58)
          ∷ Class (at 1 3 19) (codes "D") (Some 54) (Some 56) (59 ∷ [])
          ∷ [];
      files = ((41 ∷ []) ∷ (48 ∷ 52 ∷ 60 ∷ []) ∷ []);
    }

other_runs_in_class : class_phase (declarations_of other_runs_in) ≡ []
unfolding computing
other_runs_in_class = refl

other_runs_in_type : type_phase (declarations_of other_runs_in) ≡ []
unfolding computing
other_runs_in_type = refl

other_runs_in_scope : scope_phase (declarations_of other_runs_in) ≡ []
unfolding computing
other_runs_in_scope = refl

other_runs_in_broken : use_phase (declarations_of other_runs_in) ≡ found A6 (at 1 3 38) ∷ []
unfolding computing
other_runs_in_broken = refl

abbrev pub same_runs_in : Forest
same_runs_in =
    record {
      nodes =
          SuperType (at 0 1 22) (codes "Safelet") None
          ∷ Supers (at 0 1 11) None (0 ∷ [])
          ∷ ClassType (at 0 2 10) (codes "MissionSequencer") None false
          ∷ Null (at 0 2 51)
          ∷ Return (at 0 2 44) (Some 3)
          ∷ Block (at 0 2 42) (4 ∷ [])
          ∷ Method (at 0 2 27) (codes "getSequencer") None 2 None (Some 5)
          ∷ LongType (at 0 3 10)
          ∷ Number (at 0 3 45) 64 false
          ∷ Return (at 0 3 38) (Some 8)
          ∷ Block (at 0 3 36) (9 ∷ [])
          ∷ Method (at 0 3 15) (codes "immortalMemorySize") None 7 None (Some 10)
          ∷ VoidType (at 0 4 10)
          ∷ IntType (at 0 5 5) false
          ∷ Number (at 0 5 13) 2147483648 true
          ∷ LocalWithValue (at 0 5 11) (at 0 5 9) (codes "m") None 13 14
          ∷ SimpleName (at 0 5 26) (codes "Trace")
          ∷ Text (at 0 5 38) (codes "a")
          ∷ SimpleName (at 0 5 43) (codes "m")
          ∷ Number (at 0 5 48) 1 false
          ∷ Unary (at 0 5 47) 18 19
          ∷ Binary (at 0 5 45) 20 18 20
          ∷ Call (at 0 5 32) (codes "print") (Some 16) (17 ∷ 21 ∷ [])
          ∷ ExpressionStatement (at 0 5 32) 22
          ∷ SimpleName (at 0 6 5) (codes "Trace")
          ∷ Text (at 0 6 17) (codes "b")
          ∷ SimpleName (at 0 6 22) (codes "m")
          ∷ Number (at 0 6 27) 1 false
          ∷ Unary (at 0 6 26) 18 27
          ∷ Binary (at 0 6 24) 21 26 28
          ∷ Call (at 0 6 11) (codes "print") (Some 24) (25 ∷ 29 ∷ [])
          ∷ ExpressionStatement (at 0 6 11) 30
          ∷ SimpleName (at 0 6 31) (codes "Trace")
          ∷ Text (at 0 6 43) (codes "c")
          ∷ Number (at 0 6 48) 1 false
          ∷ Number (at 0 6 53) 33 false
          ∷ Binary (at 0 6 50) 29 34 35
          ∷ Call (at 0 6 37) (codes "print") (Some 32) (33 ∷ 36 ∷ [])
          ∷ ExpressionStatement (at 0 6 37) 37
          ∷ Block (at 0 4 39) (15 ∷ 23 ∷ 31 ∷ 38 ∷ [])
          ∷ Method (at 0 4 15) (codes "initializeApplication") None 12 None (Some 39)
          ∷ Class (at 0 1 7) (codes "App") None (Some 1) (6 ∷ 11 ∷ 40 ∷ [])
          ∷ ScopeName (at 1 1 19) (codes "M")
          ∷ ScopeName (at 1 1 31) (codes "IMMORTAL")
          ∷ DefineScope (at 1 1 1) 42 43 false
          ∷ Flags (at 1 1 1) (Some 44) None None false true false
          ∷ SuperType (at 1 1 69) (codes "Mission") None
          ∷ Supers (at 1 1 61) (Some 46) []
          ∷ Class (at 1 1 58) (codes "Mi") (Some 45) (Some 47) []
          ∷ VoidType (at 1 2 11)
          ∷ Block (at 1 2 20) []
          ∷ Method (at 1 2 16) (codes "m") None 49 None (Some 50)
          ∷ Class (at 1 2 7) (codes "C") None None (51 ∷ [])
          ∷ ScopeName (at 1 3 8) (codes "M")
          ∷ Flags (at 1 3 1) None (Some 53) None false false false
          ∷ SuperType (at 1 3 29) (codes "C") None
          ∷ Supers (at 1 3 21) (Some 55) []
          ∷ ScopeName (at 1 3 41) (codes "CALLER")
          ∷ Flags (at 1 3 33) None None (Some 57) false false false
          ∷ VoidType (at 1 3 49)
          ∷ Block (at 1 3 58) []
          ∷ Method (at 1 3 54) (codes "m") (Some 58) 59 None (Some 60)
          ∷ Class (at 1 3 19) (codes "D") (Some 54) (Some 56) (61 ∷ [])
          ∷ [];
      files = ((41 ∷ []) ∷ (48 ∷ 52 ∷ 62 ∷ []) ∷ []);
    }

same_runs_in_class : class_phase (declarations_of same_runs_in) ≡ []
unfolding computing
same_runs_in_class = refl

same_runs_in_type : type_phase (declarations_of same_runs_in) ≡ []
unfolding computing
same_runs_in_type = refl

same_runs_in_scope : scope_phase (declarations_of same_runs_in) ≡ []
unfolding computing
same_runs_in_scope = refl

same_runs_in_use : use_phase (declarations_of same_runs_in) ≡ []
unfolding computing
same_runs_in_use = refl

abbrev pub defined_twice : Forest
defined_twice =
    record {
      nodes =
          SuperType (at 0 1 22) (codes "Safelet") None
          ∷ Supers (at 0 1 11) None (0 ∷ [])
          ∷ ClassType (at 0 2 10) (codes "MissionSequencer") None false
          ∷ Null (at 0 2 51)
          ∷ Return (at 0 2 44) (Some 3)
          ∷ Block (at 0 2 42) (4 ∷ [])
          ∷ Method (at 0 2 27) (codes "getSequencer") None 2 None (Some 5)
          ∷ LongType (at 0 3 10)
          ∷ Number (at 0 3 45) 64 false
          ∷ Return (at 0 3 38) (Some 8)
          ∷ Block (at 0 3 36) (9 ∷ [])
          ∷ Method (at 0 3 15) (codes "immortalMemorySize") None 7 None (Some 10)
          ∷ VoidType (at 0 4 10)
          ∷ IntType (at 0 5 5) false
          ∷ Number (at 0 5 13) 2147483648 true
          ∷ LocalWithValue (at 0 5 11) (at 0 5 9) (codes "m") None 13 14
          ∷ SimpleName (at 0 5 26) (codes "Trace")
          ∷ Text (at 0 5 38) (codes "a")
          ∷ SimpleName (at 0 5 43) (codes "m")
          ∷ Number (at 0 5 48) 1 false
          ∷ Unary (at 0 5 47) 18 19
          ∷ Binary (at 0 5 45) 20 18 20
          ∷ Call (at 0 5 32) (codes "print") (Some 16) (17 ∷ 21 ∷ [])
          ∷ ExpressionStatement (at 0 5 32) 22
          ∷ SimpleName (at 0 6 5) (codes "Trace")
          ∷ Text (at 0 6 17) (codes "b")
          ∷ SimpleName (at 0 6 22) (codes "m")
          ∷ Number (at 0 6 27) 1 false
          ∷ Unary (at 0 6 26) 18 27
          ∷ Binary (at 0 6 24) 21 26 28
          ∷ Call (at 0 6 11) (codes "print") (Some 24) (25 ∷ 29 ∷ [])
          ∷ ExpressionStatement (at 0 6 11) 30
          ∷ SimpleName (at 0 6 31) (codes "Trace")
          ∷ Text (at 0 6 43) (codes "c")
          ∷ Number (at 0 6 48) 1 false
          ∷ Number (at 0 6 53) 33 false
          ∷ Binary (at 0 6 50) 29 34 35
          ∷ Call (at 0 6 37) (codes "print") (Some 32) (33 ∷ 36 ∷ [])
          ∷ ExpressionStatement (at 0 6 37) 37
          ∷ Block (at 0 4 39) (15 ∷ 23 ∷ 31 ∷ 38 ∷ [])
          ∷ Method (at 0 4 15) (codes "initializeApplication") None 12 None (Some 39)
          ∷ Class (at 0 1 7) (codes "App") None (Some 1) (6 ∷ 11 ∷ 40 ∷ [])
          ∷ ScopeName (at 1 1 19) (codes "M")
          ∷ ScopeName (at 1 1 31) (codes "IMMORTAL")
          ∷ DefineScope (at 1 1 1) 42 43 false
          ∷ Flags (at 1 1 1) (Some 44) None None false true false
          ∷ SuperType (at 1 2 27) (codes "Mission") None
          ∷ Supers (at 1 2 19) (Some 46) []
          ∷ Class (at 1 2 16) (codes "M1") (Some 45) (Some 47) []
          ∷ ScopeName (at 1 3 19) (codes "M")
          ∷ ScopeName (at 1 3 31) (codes "IMMORTAL")
          ∷ DefineScope (at 1 3 1) 49 50 false
          ∷ Flags (at 1 3 1) (Some 51) None None false true false
          ∷ SuperType (at 1 4 27) (codes "Mission") None
          ∷ Supers (at 1 4 19) (Some 53) []
          ∷ Class (at 1 4 16) (codes "M2") (Some 52) (Some 54) []
          ∷ [];
      files = ((41 ∷ []) ∷ (48 ∷ 55 ∷ []) ∷ []);
    }

defined_twice_class : class_phase (declarations_of defined_twice) ≡ []
unfolding computing
defined_twice_class = refl

defined_twice_type : type_phase (declarations_of defined_twice) ≡ []
unfolding computing
defined_twice_type = refl

defined_twice_scope : scope_phase (declarations_of defined_twice) ≡ found S1 (at 1 3 19) ∷ []
unfolding computing
defined_twice_scope = refl

abbrev pub scope_cycle : Forest
scope_cycle =
    record {
      nodes =
          SuperType (at 0 1 22) (codes "Safelet") None
          ∷ Supers (at 0 1 11) None (0 ∷ [])
          ∷ ClassType (at 0 2 10) (codes "MissionSequencer") None false
          ∷ Null (at 0 2 51)
          ∷ Return (at 0 2 44) (Some 3)
          ∷ Block (at 0 2 42) (4 ∷ [])
          ∷ Method (at 0 2 27) (codes "getSequencer") None 2 None (Some 5)
          ∷ LongType (at 0 3 10)
          ∷ Number (at 0 3 45) 64 false
          ∷ Return (at 0 3 38) (Some 8)
          ∷ Block (at 0 3 36) (9 ∷ [])
          ∷ Method (at 0 3 15) (codes "immortalMemorySize") None 7 None (Some 10)
          ∷ VoidType (at 0 4 10)
          ∷ IntType (at 0 5 5) false
          ∷ Number (at 0 5 13) 2147483648 true
          ∷ LocalWithValue (at 0 5 11) (at 0 5 9) (codes "m") None 13 14
          ∷ SimpleName (at 0 5 26) (codes "Trace")
          ∷ Text (at 0 5 38) (codes "a")
          ∷ SimpleName (at 0 5 43) (codes "m")
          ∷ Number (at 0 5 48) 1 false
          ∷ Unary (at 0 5 47) 18 19
          ∷ Binary (at 0 5 45) 20 18 20
          ∷ Call (at 0 5 32) (codes "print") (Some 16) (17 ∷ 21 ∷ [])
          ∷ ExpressionStatement (at 0 5 32) 22
          ∷ SimpleName (at 0 6 5) (codes "Trace")
          ∷ Text (at 0 6 17) (codes "b")
          ∷ SimpleName (at 0 6 22) (codes "m")
          ∷ Number (at 0 6 27) 1 false
          ∷ Unary (at 0 6 26) 18 27
          ∷ Binary (at 0 6 24) 21 26 28
          ∷ Call (at 0 6 11) (codes "print") (Some 24) (25 ∷ 29 ∷ [])
          ∷ ExpressionStatement (at 0 6 11) 30
          ∷ SimpleName (at 0 6 31) (codes "Trace")
          ∷ Text (at 0 6 43) (codes "c")
          ∷ Number (at 0 6 48) 1 false
          ∷ Number (at 0 6 53) 33 false
          ∷ Binary (at 0 6 50) 29 34 35
          ∷ Call (at 0 6 37) (codes "print") (Some 32) (33 ∷ 36 ∷ [])
          ∷ ExpressionStatement (at 0 6 37) 37
          ∷ Block (at 0 4 39) (15 ∷ 23 ∷ 31 ∷ 38 ∷ [])
          ∷ Method (at 0 4 15) (codes "initializeApplication") None 12 None (Some 39)
          ∷ Class (at 0 1 7) (codes "App") None (Some 1) (6 ∷ 11 ∷ 40 ∷ [])
          ∷ ScopeName (at 1 1 19) (codes "X")
          ∷ ScopeName (at 1 1 31) (codes "Y")
          ∷ DefineScope (at 1 1 1) 42 43 false
          ∷ Flags (at 1 1 1) (Some 44) None None false true false
          ∷ SuperType (at 1 1 65) (codes "Runnable") None
          ∷ Supers (at 1 1 54) None (46 ∷ [])
          ∷ Class (at 1 1 51) (codes "R1") (Some 45) (Some 47) []
          ∷ ScopeName (at 1 2 19) (codes "Y")
          ∷ ScopeName (at 1 2 31) (codes "Z")
          ∷ DefineScope (at 1 2 1) 49 50 false
          ∷ Flags (at 1 2 1) (Some 51) None None false true false
          ∷ SuperType (at 1 2 65) (codes "Runnable") None
          ∷ Supers (at 1 2 54) None (53 ∷ [])
          ∷ Class (at 1 2 51) (codes "R2") (Some 52) (Some 54) []
          ∷ ScopeName (at 1 3 19) (codes "Z")
          ∷ ScopeName (at 1 3 31) (codes "X")
          ∷ DefineScope (at 1 3 1) 56 57 false
          ∷ Flags (at 1 3 1) (Some 58) None None false true false
          ∷ SuperType (at 1 3 65) (codes "Runnable") None
          ∷ Supers (at 1 3 54) None (60 ∷ [])
          ∷ Class (at 1 3 51) (codes "R3") (Some 59) (Some 61) []
          ∷ [];
      files = ((41 ∷ []) ∷ (48 ∷ 55 ∷ 62 ∷ []) ∷ []);
    }

scope_cycle_class : class_phase (declarations_of scope_cycle) ≡ []
unfolding computing
scope_cycle_class = refl

scope_cycle_type : type_phase (declarations_of scope_cycle) ≡ []
unfolding computing
scope_cycle_type = refl

scope_cycle_scope : scope_phase (declarations_of scope_cycle) ≡ found S3 (at 1 1 31) ∷ found S3 (at 1 2 31)
    ∷ found S3 (at 1 3 31) ∷ []
unfolding computing
scope_cycle_scope = refl

-- `@DefineScope(name="A", parent="B") class X { }`, `@DefineScope(name="M", parent="A") class Y extends Mission { }`
-- and
-- `class Z extends Mission { }`, on a line each
abbrev pub misfits : Forest
misfits =
    record {
      nodes =
          ScopeName (at 0 1 19) (codes "A")
          ∷ ScopeName (at 0 1 31) (codes "B")
          ∷ DefineScope (at 0 1 1) 0 1 false
          ∷ Flags (at 0 1 1) (Some 2) None None false false false
          ∷ Class (at 0 1 42) (codes "X") (Some 3) None []
          ∷ ScopeName (at 0 2 19) (codes "M")
          ∷ ScopeName (at 0 2 31) (codes "A")
          ∷ DefineScope (at 0 2 1) 5 6 false
          ∷ Flags (at 0 2 1) (Some 7) None None false false false
          ∷ SuperType (at 0 2 52) (codes "Mission") None
          ∷ Supers (at 0 2 44) (Some 9) []
          ∷ Class (at 0 2 42) (codes "Y") (Some 8) (Some 10) []
          ∷ SuperType (at 0 3 17) (codes "Mission") None
          ∷ Supers (at 0 3 9) (Some 12) []
          ∷ Class (at 0 3 7) (codes "Z") None (Some 13) []
          ∷ [];
      files = ((4 ∷ 11 ∷ 14 ∷ []) ∷ []);
    }

misfits_scope : scope_phase (declarations_of misfits) ≡ found S2 (at 0 1 31) ∷ found S4 (at 0 1 19)
    ∷ found S5 (at 0 2 31) ∷ found S6 (at 0 3 7) ∷ []
unfolding computing
misfits_scope = refl

pub in_constructor_accepted : IsAccepted own_field_in_constructor
unfolding computing
in_constructor_accepted =
    accepted own_field_in_constructor in_constructor_class in_constructor_type in_constructor_scope in_constructor_use

pub same_runs_in_accepted : IsAccepted same_runs_in
unfolding computing
same_runs_in_accepted = accepted same_runs_in same_runs_in_class same_runs_in_type same_runs_in_scope same_runs_in_use
