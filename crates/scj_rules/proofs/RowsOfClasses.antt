-- The definitions at small programs: no class at all, one safelet, an unknown superclass, every break of one phase.
use Rattle.std.proofs.Common.{◌≡◌, ℕ, [], ◌∷◌, refl, Some, None, codes, true, false}
use Rattle.scj_base.specs.declared.findings.Found.{Found}
use Rattle.scj_base.specs.declared.findings.Rule.{Rule}
use Rattle.scj_base.specs.declared.findings.Rule.TheVariants.{C2, C8, T1, T10, T9}
use Rattle.scj_base.specs.declared.positions.Position.{Position}
use Rattle.scj_tree.specs.declared.nodes.Node.TheVariants.{Binary, Block, BooleanType, Call, Class, ClassType, DefineScope, ExpressionStatement, Flags, IntType, LocalWithValue, LongType, Method, Null, Number, Return, ScopeName, SimpleName, SuperType, Supers, Text, True, Unary, VoidType}
use Rattle.scj_tree.specs.Forest.{Forest}
use Rattle.scj_rules.specs.Contexts.{declarations_of}
use Rattle.scj_rules.specs.Phases.{class_phase, type_phase, scope_phase, use_phase, IsAccepted}
use Rattle.scj_rules.proofs.Computing.{computing}
use Rattle.scj_rules.proofs.AcceptedLemmas.{accepted}

abbrev at : ℕ → ℕ → ℕ → Position
at file line col = record { file = file; line = line; col = col }

abbrev found : Rule → Position → Found
found rule position = record { pos = position; rule = rule }

abbrev pub nothing_written : Forest
nothing_written =
    record {
      nodes =
          [];
      files = (([]) ∷ []);
    }

no_safelet : class_phase (declarations_of nothing_written) ≡ found C8 (at 0 1 1) ∷ []
unfolding computing
no_safelet = refl

abbrev pub one_safelet : Forest
one_safelet =
    record {
      nodes =
          SuperType (at 0 1 22) (codes "Safelet") None
          ∷ Supers (at 0 1 11) None (0 ∷ [])
          ∷ ClassType (at 0 2 10) (codes "MissionSequencer") None false
          ∷ Null (at 0 2 51)
          ∷ Return (at 0 2 44) (Some 3)
          ∷ Block (at 0 2 42) (4 ∷ [])
          ∷ Method (at 0 2 27) (codes "getSequencer") None 2 None (Some 5)
          ∷ LongType (at 0 3 10)
          ∷ Number (at 0 3 45) 64 false
          ∷ Return (at 0 3 38) (Some 8)
          ∷ Block (at 0 3 36) (9 ∷ [])
          ∷ Method (at 0 3 15) (codes "immortalMemorySize") None 7 None (Some 10)
          ∷ VoidType (at 0 4 10)
          ∷ IntType (at 0 5 5) false
          ∷ Number (at 0 5 13) 2147483648 true
          ∷ LocalWithValue (at 0 5 11) (at 0 5 9) (codes "m") None 13 14
          ∷ SimpleName (at 0 5 26) (codes "Trace")
          ∷ Text (at 0 5 38) (codes "a")
          ∷ SimpleName (at 0 5 43) (codes "m")
          ∷ Number (at 0 5 48) 1 false
          ∷ Unary (at 0 5 47) 18 19
          ∷ Binary (at 0 5 45) 20 18 20
          ∷ Call (at 0 5 32) (codes "print") (Some 16) (17 ∷ 21 ∷ [])
          ∷ ExpressionStatement (at 0 5 32) 22
          ∷ SimpleName (at 0 6 5) (codes "Trace")
          ∷ Text (at 0 6 17) (codes "b")
          ∷ SimpleName (at 0 6 22) (codes "m")
          ∷ Number (at 0 6 27) 1 false
          ∷ Unary (at 0 6 26) 18 27
          ∷ Binary (at 0 6 24) 21 26 28
          ∷ Call (at 0 6 11) (codes "print") (Some 24) (25 ∷ 29 ∷ [])
          ∷ ExpressionStatement (at 0 6 11) 30
          ∷ SimpleName (at 0 6 31) (codes "Trace")
          ∷ Text (at 0 6 43) (codes "c")
          ∷ Number (at 0 6 48) 1 false
          ∷ Number (at 0 6 53) 33 false
          ∷ Binary (at 0 6 50) 29 34 35
          ∷ Call (at 0 6 37) (codes "print") (Some 32) (33 ∷ 36 ∷ [])
          ∷ ExpressionStatement (at 0 6 37) 37
          ∷ Block (at 0 4 39) (15 ∷ 23 ∷ 31 ∷ 38 ∷ [])
          ∷ Method (at 0 4 15) (codes "initializeApplication") None 12 None (Some 39)
          ∷ Class (at 0 1 7) (codes "App") None (Some 1) (6 ∷ 11 ∷ 40 ∷ [])
          ∷ [];
      files = ((41 ∷ []) ∷ []);
    }

safelet_class : class_phase (declarations_of one_safelet) ≡ []
unfolding computing
safelet_class = refl

safelet_type : type_phase (declarations_of one_safelet) ≡ []
unfolding computing
safelet_type = refl

safelet_scope : scope_phase (declarations_of one_safelet) ≡ []
unfolding computing
safelet_scope = refl

safelet_use : use_phase (declarations_of one_safelet) ≡ []
unfolding computing
safelet_use = refl

abbrev pub unknown_super : Forest
unknown_super =
    record {
      nodes =
          SuperType (at 0 1 22) (codes "Safelet") None
          ∷ Supers (at 0 1 11) None (0 ∷ [])
          ∷ ClassType (at 0 2 10) (codes "MissionSequencer") None false
          ∷ Null (at 0 2 51)
          ∷ Return (at 0 2 44) (Some 3)
          ∷ Block (at 0 2 42) (4 ∷ [])
          ∷ Method (at 0 2 27) (codes "getSequencer") None 2 None (Some 5)
          ∷ LongType (at 0 3 10)
          ∷ Number (at 0 3 45) 64 false
          ∷ Return (at 0 3 38) (Some 8)
          ∷ Block (at 0 3 36) (9 ∷ [])
          ∷ Method (at 0 3 15) (codes "immortalMemorySize") None 7 None (Some 10)
          ∷ VoidType (at 0 4 10)
          ∷ IntType (at 0 5 5) false
          ∷ Number (at 0 5 13) 2147483648 true
          ∷ LocalWithValue (at 0 5 11) (at 0 5 9) (codes "m") None 13 14
          ∷ SimpleName (at 0 5 26) (codes "Trace")
          ∷ Text (at 0 5 38) (codes "a")
          ∷ SimpleName (at 0 5 43) (codes "m")
          ∷ Number (at 0 5 48) 1 false
          ∷ Unary (at 0 5 47) 18 19
          ∷ Binary (at 0 5 45) 20 18 20
          ∷ Call (at 0 5 32) (codes "print") (Some 16) (17 ∷ 21 ∷ [])
          ∷ ExpressionStatement (at 0 5 32) 22
          ∷ SimpleName (at 0 6 5) (codes "Trace")
          ∷ Text (at 0 6 17) (codes "b")
          ∷ SimpleName (at 0 6 22) (codes "m")
          ∷ Number (at 0 6 27) 1 false
          ∷ Unary (at 0 6 26) 18 27
          ∷ Binary (at 0 6 24) 21 26 28
          ∷ Call (at 0 6 11) (codes "print") (Some 24) (25 ∷ 29 ∷ [])
          ∷ ExpressionStatement (at 0 6 11) 30
          ∷ SimpleName (at 0 6 31) (codes "Trace")
          ∷ Text (at 0 6 43) (codes "c")
          ∷ Number (at 0 6 48) 1 false
          ∷ Number (at 0 6 53) 33 false
          ∷ Binary (at 0 6 50) 29 34 35
          ∷ Call (at 0 6 37) (codes "print") (Some 32) (33 ∷ 36 ∷ [])
          ∷ ExpressionStatement (at 0 6 37) 37
          ∷ Block (at 0 4 39) (15 ∷ 23 ∷ 31 ∷ 38 ∷ [])
          ∷ Method (at 0 4 15) (codes "initializeApplication") None 12 None (Some 39)
          ∷ Class (at 0 1 7) (codes "App") None (Some 1) (6 ∷ 11 ∷ 40 ∷ [])
          ∷ SuperType (at 1 1 17) (codes "D") None
          ∷ Supers (at 1 1 9) (Some 42) []
          ∷ IntType (at 1 1 21) false
          ∷ True (at 1 1 38)
          ∷ Return (at 1 1 31) (Some 45)
          ∷ Block (at 1 1 29) (46 ∷ [])
          ∷ Method (at 1 1 25) (codes "f") None 44 None (Some 47)
          ∷ Class (at 1 1 7) (codes "C") None (Some 43) (48 ∷ [])
          ∷ [];
      files = ((41 ∷ []) ∷ (49 ∷ []) ∷ []);
    }

unknown_super_broken : class_phase (declarations_of unknown_super) ≡ found C2 (at 1 1 17) ∷ []
unfolding computing
unknown_super_broken = refl

abbrev pub three_breaks : Forest
three_breaks =
    record {
      nodes =
          SuperType (at 0 1 22) (codes "Safelet") None
          ∷ Supers (at 0 1 11) None (0 ∷ [])
          ∷ ClassType (at 0 2 10) (codes "MissionSequencer") None false
          ∷ Null (at 0 2 51)
          ∷ Return (at 0 2 44) (Some 3)
          ∷ Block (at 0 2 42) (4 ∷ [])
          ∷ Method (at 0 2 27) (codes "getSequencer") None 2 None (Some 5)
          ∷ LongType (at 0 3 10)
          ∷ Number (at 0 3 45) 64 false
          ∷ Return (at 0 3 38) (Some 8)
          ∷ Block (at 0 3 36) (9 ∷ [])
          ∷ Method (at 0 3 15) (codes "immortalMemorySize") None 7 None (Some 10)
          ∷ VoidType (at 0 4 10)
          ∷ IntType (at 0 5 5) false
          ∷ Number (at 0 5 13) 2147483648 true
          ∷ LocalWithValue (at 0 5 11) (at 0 5 9) (codes "m") None 13 14
          ∷ SimpleName (at 0 5 26) (codes "Trace")
          ∷ Text (at 0 5 38) (codes "a")
          ∷ SimpleName (at 0 5 43) (codes "m")
          ∷ Number (at 0 5 48) 1 false
          ∷ Unary (at 0 5 47) 18 19
          ∷ Binary (at 0 5 45) 20 18 20
          ∷ Call (at 0 5 32) (codes "print") (Some 16) (17 ∷ 21 ∷ [])
          ∷ ExpressionStatement (at 0 5 32) 22
          ∷ SimpleName (at 0 6 5) (codes "Trace")
          ∷ Text (at 0 6 17) (codes "b")
          ∷ SimpleName (at 0 6 22) (codes "m")
          ∷ Number (at 0 6 27) 1 false
          ∷ Unary (at 0 6 26) 18 27
          ∷ Binary (at 0 6 24) 21 26 28
          ∷ Call (at 0 6 11) (codes "print") (Some 24) (25 ∷ 29 ∷ [])
          ∷ ExpressionStatement (at 0 6 11) 30
          ∷ SimpleName (at 0 6 31) (codes "Trace")
          ∷ Text (at 0 6 43) (codes "c")
          ∷ Number (at 0 6 48) 1 false
          ∷ Number (at 0 6 53) 33 false
          ∷ Binary (at 0 6 50) 29 34 35
          ∷ Call (at 0 6 37) (codes "print") (Some 32) (33 ∷ 36 ∷ [])
          ∷ ExpressionStatement (at 0 6 37) 37
          ∷ Block (at 0 4 39) (15 ∷ 23 ∷ 31 ∷ 38 ∷ [])
          ∷ Method (at 0 4 15) (codes "initializeApplication") None 12 None (Some 39)
          ∷ Class (at 0 1 7) (codes "App") None (Some 1) (6 ∷ 11 ∷ 40 ∷ [])
          ∷ IntType (at 1 1 11) false
          ∷ SimpleName (at 1 1 28) (codes "x")
          ∷ Return (at 1 1 21) (Some 43)
          ∷ Block (at 1 1 19) (44 ∷ [])
          ∷ Method (at 1 1 15) (codes "f") None 42 None (Some 45)
          ∷ BooleanType (at 1 1 33) false
          ∷ Number (at 1 1 54) 1 false
          ∷ Return (at 1 1 47) (Some 48)
          ∷ Block (at 1 1 45) (49 ∷ [])
          ∷ Method (at 1 1 41) (codes "g") None 47 None (Some 50)
          ∷ IntType (at 1 1 59) false
          ∷ Block (at 1 1 67) []
          ∷ Method (at 1 1 63) (codes "h") None 52 None (Some 53)
          ∷ Class (at 1 1 7) (codes "C") None None (46 ∷ 51 ∷ 54 ∷ [])
          ∷ ScopeName (at 1 2 19) (codes "IMMORTAL")
          ∷ ScopeName (at 1 2 38) (codes "IMMORTAL")
          ∷ DefineScope (at 1 2 1) 56 57 false
          ∷ Flags (at 1 2 1) (Some 58) None None false false false
          ∷ Class (at 1 2 56) (codes "E") (Some 59) None []
          ∷ [];
      files = ((41 ∷ []) ∷ (55 ∷ 60 ∷ []) ∷ []);
    }

three_classes_right : class_phase (declarations_of three_breaks) ≡ []
unfolding computing
three_classes_right = refl

three_broken : type_phase (declarations_of three_breaks) ≡ found T1 (at 1 1 28) ∷ found T9 (at 1 1 47)
    ∷ found T10 (at 1 1 63) ∷ []
unfolding computing
three_broken = refl

pub safelet_accepted : IsAccepted one_safelet
unfolding computing
safelet_accepted = accepted one_safelet safelet_class safelet_type safelet_scope safelet_use
