-- The nodes of B.java, C.java. Printed by expected/print_nodes.py.
use Rattle.std.specs.Prelude.{[], ◌∷◌, Some, None, codes, false, ℕ}
use Rattle.scj_base.specs.declared.positions.Position.{Position}
use Rattle.scj_tree.specs.declared.nodes.Node.TheVariants.{Assign, Binary, Block, Call, Class, ClassType, Constructor, DefineScope, ExpressionStatement, Field, Flags, If, IntType, LongType, Method, New, Null, Number, Parameter, Parameters, Return, ScopeName, SimpleName, SuperCall, SuperType, Supers, Text, This, VoidType}
use Rattle.scj_tree.specs.Forest.{Forest}

abbrev at : ℕ → ℕ → ℕ → Position
at file line col = record { file = file; line = line; col = col }

abbrev pub one_byte_less : Forest
one_byte_less =
    record {
      nodes =
          SuperType (at 0 1 22) (codes "Safelet") None
          ∷ Supers (at 0 1 11) None (0 ∷ [])
          ∷ ClassType (at 0 2 10) (codes "MissionSequencer") None false
          ∷ New (at 0 2 51) (at 0 2 55) (codes "Seq") []
          ∷ Return (at 0 2 44) (Some 3)
          ∷ Block (at 0 2 42) (4 ∷ [])
          ∷ Method (at 0 2 27) (codes "getSequencer") None 2 None (Some 5)
          ∷ LongType (at 0 3 10)
          ∷ Number (at 0 3 45) 400 false
          ∷ Return (at 0 3 38) (Some 8)
          ∷ Block (at 0 3 36) (9 ∷ [])
          ∷ Method (at 0 3 15) (codes "immortalMemorySize") None 7 None (Some 10)
          ∷ VoidType (at 0 4 10)
          ∷ Block (at 0 4 39) []
          ∷ Method (at 0 4 15) (codes "initializeApplication") None 12 None (Some 13)
          ∷ Class (at 0 1 7) (codes "App") None (Some 1) (6 ∷ 11 ∷ 14 ∷ [])
          ∷ SuperType (at 0 6 19) (codes "MissionSequencer") None
          ∷ Supers (at 0 6 11) (Some 16) []
          ∷ IntType (at 0 7 3) false
          ∷ Field (at 0 7 7) (codes "n") None 18 None None
          ∷ Number (at 0 8 40) 5 false
          ∷ New (at 0 8 17) (at 0 8 21) (codes "PriorityParameters") (20 ∷ [])
          ∷ Number (at 0 8 66) 0 false
          ∷ New (at 0 8 44) (at 0 8 48) (codes "StorageParameters") (22 ∷ [])
          ∷ SuperCall (at 0 8 11) (21 ∷ 23 ∷ [])
          ∷ Block (at 0 8 9) []
          ∷ Constructor (at 0 8 3) (codes "Seq") None None (Some 24) 25
          ∷ ClassType (at 0 9 10) (codes "Mission") None false
          ∷ SimpleName (at 0 10 9) (codes "n")
          ∷ Number (at 0 10 13) 0 false
          ∷ Binary (at 0 10 11) 14 28 29
          ∷ Null (at 0 10 23)
          ∷ Return (at 0 10 16) (Some 31)
          ∷ If (at 0 10 5) 30 32 None
          ∷ SimpleName (at 0 11 5) (codes "n")
          ∷ SimpleName (at 0 11 9) (codes "n")
          ∷ Number (at 0 11 13) 1 false
          ∷ Binary (at 0 11 11) 17 35 36
          ∷ Assign (at 0 11 7) 34 37
          ∷ New (at 0 12 12) (at 0 12 16) (codes "Main") []
          ∷ Return (at 0 12 5) (Some 39)
          ∷ Block (at 0 9 35) (33 ∷ 38 ∷ 40 ∷ [])
          ∷ Method (at 0 9 18) (codes "getNextMission") None 27 None (Some 41)
          ∷ Class (at 0 6 7) (codes "Seq") None (Some 17) (19 ∷ 26 ∷ 42 ∷ [])
          ∷ ScopeName (at 1 1 19) (codes "M")
          ∷ ScopeName (at 1 1 31) (codes "IMMORTAL")
          ∷ DefineScope (at 1 1 1) 44 45 false
          ∷ Flags (at 1 1 1) (Some 46) None None false false false
          ∷ SuperType (at 1 1 62) (codes "Mission") None
          ∷ Supers (at 1 1 54) (Some 48) []
          ∷ LongType (at 1 2 10)
          ∷ Number (at 1 2 44) 200 false
          ∷ Return (at 1 2 37) (Some 51)
          ∷ Block (at 1 2 35) (52 ∷ [])
          ∷ Method (at 1 2 15) (codes "missionMemorySize") None 50 None (Some 53)
          ∷ VoidType (at 1 3 10)
          ∷ This (at 1 3 36)
          ∷ New (at 1 3 30) (at 1 3 34) (codes "H") (56 ∷ [])
          ∷ Call (at 1 3 42) (codes "register") (Some 57) []
          ∷ ExpressionStatement (at 1 3 42) 58
          ∷ Block (at 1 3 28) (59 ∷ [])
          ∷ Method (at 1 3 15) (codes "initialize") None 55 None (Some 60)
          ∷ Class (at 1 1 49) (codes "Main") (Some 47) (Some 49) (54 ∷ 61 ∷ [])
          ∷ ScopeName (at 1 5 8) (codes "M")
          ∷ ScopeName (at 1 5 31) (codes "P")
          ∷ ScopeName (at 1 5 43) (codes "M")
          ∷ DefineScope (at 1 5 13) 64 65 false
          ∷ Flags (at 1 5 1) (Some 66) (Some 63) None false false false
          ∷ SuperType (at 1 5 64) (codes "AperiodicEventHandler") None
          ∷ Supers (at 1 5 56) (Some 68) []
          ∷ ClassType (at 1 6 3) (codes "Main") None false
          ∷ Field (at 1 6 8) (codes "m") None 70 None None
          ∷ ClassType (at 1 7 5) (codes "Main") None false
          ∷ Parameter (at 1 7 10) (codes "x") None 72
          ∷ Parameters (at 1 7 4) (73 ∷ [])
          ∷ Number (at 1 7 44) 7 false
          ∷ New (at 1 7 21) (at 1 7 25) (codes "PriorityParameters") (75 ∷ [])
          ∷ New (at 1 7 48) (at 1 7 52) (codes "AperiodicParameters") []
          ∷ Number (at 1 7 97) 47 false
          ∷ New (at 1 7 75) (at 1 7 79) (codes "StorageParameters") (78 ∷ [])
          ∷ SuperCall (at 1 7 15) (76 ∷ 77 ∷ 79 ∷ [])
          ∷ SimpleName (at 1 7 103) (codes "m")
          ∷ SimpleName (at 1 7 107) (codes "x")
          ∷ Assign (at 1 7 105) 81 82
          ∷ Block (at 1 7 13) (83 ∷ [])
          ∷ Constructor (at 1 7 3) (codes "H") None (Some 74) (Some 80) 84
          ∷ VoidType (at 1 8 10)
          ∷ Number (at 1 8 44) 1 false
          ∷ New (at 1 8 36) (at 1 8 40) (codes "Box") (87 ∷ [])
          ∷ ExpressionStatement (at 1 8 36) 88
          ∷ Number (at 1 8 56) 2 false
          ∷ New (at 1 8 48) (at 1 8 52) (codes "Box") (90 ∷ [])
          ∷ ExpressionStatement (at 1 8 48) 91
          ∷ SimpleName (at 1 8 60) (codes "Trace")
          ∷ Text (at 1 8 72) (codes "ok")
          ∷ Number (at 1 8 78) 0 false
          ∷ Call (at 1 8 66) (codes "print") (Some 93) (94 ∷ 95 ∷ [])
          ∷ ExpressionStatement (at 1 8 66) 96
          ∷ Block (at 1 8 34) (89 ∷ 92 ∷ 97 ∷ [])
          ∷ Method (at 1 8 15) (codes "handleAsyncEvent") None 86 None (Some 98)
          ∷ Class (at 1 5 54) (codes "H") (Some 67) (Some 69) (71 ∷ 85 ∷ 99 ∷ [])
          ∷ IntType (at 1 10 13) false
          ∷ Field (at 1 10 17) (codes "v") None 101 None None
          ∷ IntType (at 1 10 24) false
          ∷ Parameter (at 1 10 28) (codes "a") None 103
          ∷ Parameters (at 1 10 23) (104 ∷ [])
          ∷ SimpleName (at 1 10 33) (codes "v")
          ∷ SimpleName (at 1 10 37) (codes "a")
          ∷ Assign (at 1 10 35) 106 107
          ∷ Block (at 1 10 31) (108 ∷ [])
          ∷ Constructor (at 1 10 20) (codes "Box") None (Some 105) None 109
          ∷ Class (at 1 10 7) (codes "Box") None None (102 ∷ 110 ∷ [])
          ∷ [];
      files = ((15 ∷ 43 ∷ []) ∷ (62 ∷ 100 ∷ 111 ∷ []) ∷ []);
    }
