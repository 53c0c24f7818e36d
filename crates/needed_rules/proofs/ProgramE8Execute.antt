-- The nodes of E8.java. Printed by expected/print_nodes.py.
use Rattle.std.specs.Prelude.{[], ◌∷◌, Some, None, codes, false, ℕ}
use Rattle.scj_base.specs.declared.positions.Position.{Position}
use Rattle.scj_tree.specs.declared.nodes.Node.TheVariants.{Assign, Block, Call, Class, ClassType, Constructor, DefineScope, ExpressionStatement, Field, Flags, LongType, Method, New, Number, Parameter, Parameters, Return, ScopeName, SimpleName, SuperCall, SuperType, Supers, This, VoidType}
use Rattle.scj_tree.specs.Forest.{Forest}

abbrev at : ℕ → ℕ → ℕ → Position
at file line col = record { file = file; line = line; col = col }

abbrev pub e8_execute : Forest
e8_execute =
    record {
      nodes =
          SuperType (at 0 1 22) (codes "Safelet") None
          ∷ Supers (at 0 1 11) None (0 ∷ [])
          ∷ ClassType (at 0 2 10) (codes "MissionSequencer") None false
          ∷ New (at 0 2 51) (at 0 2 55) (codes "Seq") []
          ∷ Return (at 0 2 44) (Some 3)
          ∷ Block (at 0 2 42) (4 ∷ [])
          ∷ Method (at 0 2 27) (codes "getSequencer") None 2 None (Some 5)
          ∷ LongType (at 0 3 10)
          ∷ Number (at 0 3 45) 400 false
          ∷ Return (at 0 3 38) (Some 8)
          ∷ Block (at 0 3 36) (9 ∷ [])
          ∷ Method (at 0 3 15) (codes "immortalMemorySize") None 7 None (Some 10)
          ∷ VoidType (at 0 4 10)
          ∷ Block (at 0 4 39) []
          ∷ Method (at 0 4 15) (codes "initializeApplication") None 12 None (Some 13)
          ∷ Class (at 0 1 7) (codes "App") None (Some 1) (6 ∷ 11 ∷ 14 ∷ [])
          ∷ SuperType (at 0 6 19) (codes "MissionSequencer") None
          ∷ Supers (at 0 6 11) (Some 16) []
          ∷ Number (at 0 7 40) 5 false
          ∷ New (at 0 7 17) (at 0 7 21) (codes "PriorityParameters") (18 ∷ [])
          ∷ Number (at 0 7 66) 0 false
          ∷ New (at 0 7 44) (at 0 7 48) (codes "StorageParameters") (20 ∷ [])
          ∷ SuperCall (at 0 7 11) (19 ∷ 21 ∷ [])
          ∷ Block (at 0 7 9) []
          ∷ Constructor (at 0 7 3) (codes "Seq") None None (Some 22) 23
          ∷ ClassType (at 0 8 10) (codes "Mission") None false
          ∷ New (at 0 8 44) (at 0 8 48) (codes "Main") []
          ∷ Return (at 0 8 37) (Some 26)
          ∷ Block (at 0 8 35) (27 ∷ [])
          ∷ Method (at 0 8 18) (codes "getNextMission") None 25 None (Some 28)
          ∷ Class (at 0 6 7) (codes "Seq") None (Some 17) (24 ∷ 29 ∷ [])
          ∷ ScopeName (at 0 10 19) (codes "M")
          ∷ ScopeName (at 0 10 31) (codes "IMMORTAL")
          ∷ DefineScope (at 0 10 1) 31 32 false
          ∷ Flags (at 0 10 1) (Some 33) None None false false false
          ∷ SuperType (at 0 10 62) (codes "Mission") None
          ∷ Supers (at 0 10 54) (Some 35) []
          ∷ LongType (at 0 11 10)
          ∷ Number (at 0 11 44) 200 false
          ∷ Return (at 0 11 37) (Some 38)
          ∷ Block (at 0 11 35) (39 ∷ [])
          ∷ Method (at 0 11 15) (codes "missionMemorySize") None 37 None (Some 40)
          ∷ VoidType (at 0 12 10)
          ∷ SimpleName (at 0 12 30) (codes "ManagedMemory")
          ∷ This (at 0 12 60)
          ∷ New (at 0 12 74) (at 0 12 78) (codes "Object") []
          ∷ New (at 0 12 66) (at 0 12 70) (codes "Job") (45 ∷ [])
          ∷ Call (at 0 12 44) (codes "executeInAreaOf") (Some 43) (44 ∷ 46 ∷ [])
          ∷ ExpressionStatement (at 0 12 44) 47
          ∷ Block (at 0 12 28) (48 ∷ [])
          ∷ Method (at 0 12 15) (codes "initialize") None 42 None (Some 49)
          ∷ Class (at 0 10 49) (codes "Main") (Some 34) (Some 36) (41 ∷ 50 ∷ [])
          ∷ ScopeName (at 0 14 8) (codes "M")
          ∷ Flags (at 0 14 1) None (Some 52) None false false false
          ∷ SuperType (at 0 14 34) (codes "Runnable") None
          ∷ Supers (at 0 14 23) None (54 ∷ [])
          ∷ ClassType (at 0 15 3) (codes "Object") None false
          ∷ Field (at 0 15 10) (codes "o") None 56 None None
          ∷ ClassType (at 0 16 7) (codes "Object") None false
          ∷ Parameter (at 0 16 14) (codes "a") None 58
          ∷ Parameters (at 0 16 6) (59 ∷ [])
          ∷ SimpleName (at 0 16 19) (codes "o")
          ∷ SimpleName (at 0 16 23) (codes "a")
          ∷ Assign (at 0 16 21) 61 62
          ∷ Block (at 0 16 17) (63 ∷ [])
          ∷ Constructor (at 0 16 3) (codes "Job") None (Some 60) None 64
          ∷ VoidType (at 0 17 10)
          ∷ SimpleName (at 0 17 31) (codes "o")
          ∷ New (at 0 17 23) (at 0 17 27) (codes "Box") (67 ∷ [])
          ∷ ExpressionStatement (at 0 17 23) 68
          ∷ Block (at 0 17 21) (69 ∷ [])
          ∷ Method (at 0 17 15) (codes "run") None 66 None (Some 70)
          ∷ Class (at 0 14 19) (codes "Job") (Some 53) (Some 55) (57 ∷ 65 ∷ 71 ∷ [])
          ∷ ClassType (at 0 19 13) (codes "Object") None false
          ∷ Field (at 0 19 20) (codes "o") None 73 None None
          ∷ ClassType (at 0 19 27) (codes "Object") None false
          ∷ Parameter (at 0 19 34) (codes "a") None 75
          ∷ Parameters (at 0 19 26) (76 ∷ [])
          ∷ SimpleName (at 0 19 39) (codes "o")
          ∷ SimpleName (at 0 19 43) (codes "a")
          ∷ Assign (at 0 19 41) 78 79
          ∷ Block (at 0 19 37) (80 ∷ [])
          ∷ Constructor (at 0 19 23) (codes "Box") None (Some 77) None 81
          ∷ Class (at 0 19 7) (codes "Box") None None (74 ∷ 82 ∷ [])
          ∷ [];
      files = ((15 ∷ 30 ∷ 51 ∷ 72 ∷ 83 ∷ []) ∷ []);
    }
