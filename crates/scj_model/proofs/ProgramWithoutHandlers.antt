-- The nodes of B.java, E.java. Printed by expected/print_nodes.py.
use Rattle.std.specs.Prelude.{[], ◌∷◌, Some, None, codes, false, ℕ}
use Rattle.scj_base.specs.declared.positions.Position.{Position}
use Rattle.scj_tree.specs.declared.nodes.Node.TheVariants.{Assign, Binary, Block, Class, ClassType, Constructor, DefineScope, Field, Flags, If, IntType, LongType, Method, New, Null, Number, Return, ScopeName, SimpleName, SuperCall, SuperType, Supers, VoidType}
use Rattle.scj_tree.specs.Forest.{Forest}

abbrev at : ℕ → ℕ → ℕ → Position
at file line col = record { file = file; line = line; col = col }

abbrev pub without_handlers : Forest
without_handlers =
    record {
      nodes =
          SuperType (at 0 1 22) (codes "Safelet") None
          ∷ Supers (at 0 1 11) None (0 ∷ [])
          ∷ ClassType (at 0 2 10) (codes "MissionSequencer") None false
          ∷ New (at 0 2 51) (at 0 2 55) (codes "Seq") []
          ∷ Return (at 0 2 44) (Some 3)
          ∷ Block (at 0 2 42) (4 ∷ [])
          ∷ Method (at 0 2 27) (codes "getSequencer") None 2 None (Some 5)
          ∷ LongType (at 0 3 10)
          ∷ Number (at 0 3 45) 400 false
          ∷ Return (at 0 3 38) (Some 8)
          ∷ Block (at 0 3 36) (9 ∷ [])
          ∷ Method (at 0 3 15) (codes "immortalMemorySize") None 7 None (Some 10)
          ∷ VoidType (at 0 4 10)
          ∷ Block (at 0 4 39) []
          ∷ Method (at 0 4 15) (codes "initializeApplication") None 12 None (Some 13)
          ∷ Class (at 0 1 7) (codes "App") None (Some 1) (6 ∷ 11 ∷ 14 ∷ [])
          ∷ SuperType (at 0 6 19) (codes "MissionSequencer") None
          ∷ Supers (at 0 6 11) (Some 16) []
          ∷ IntType (at 0 7 3) false
          ∷ Field (at 0 7 7) (codes "n") None 18 None None
          ∷ Number (at 0 8 40) 5 false
          ∷ New (at 0 8 17) (at 0 8 21) (codes "PriorityParameters") (20 ∷ [])
          ∷ Number (at 0 8 66) 0 false
          ∷ New (at 0 8 44) (at 0 8 48) (codes "StorageParameters") (22 ∷ [])
          ∷ SuperCall (at 0 8 11) (21 ∷ 23 ∷ [])
          ∷ Block (at 0 8 9) []
          ∷ Constructor (at 0 8 3) (codes "Seq") None None (Some 24) 25
          ∷ ClassType (at 0 9 10) (codes "Mission") None false
          ∷ SimpleName (at 0 10 9) (codes "n")
          ∷ Number (at 0 10 13) 0 false
          ∷ Binary (at 0 10 11) 14 28 29
          ∷ Null (at 0 10 23)
          ∷ Return (at 0 10 16) (Some 31)
          ∷ If (at 0 10 5) 30 32 None
          ∷ SimpleName (at 0 11 5) (codes "n")
          ∷ SimpleName (at 0 11 9) (codes "n")
          ∷ Number (at 0 11 13) 1 false
          ∷ Binary (at 0 11 11) 17 35 36
          ∷ Assign (at 0 11 7) 34 37
          ∷ New (at 0 12 12) (at 0 12 16) (codes "Main") []
          ∷ Return (at 0 12 5) (Some 39)
          ∷ Block (at 0 9 35) (33 ∷ 38 ∷ 40 ∷ [])
          ∷ Method (at 0 9 18) (codes "getNextMission") None 27 None (Some 41)
          ∷ Class (at 0 6 7) (codes "Seq") None (Some 17) (19 ∷ 26 ∷ 42 ∷ [])
          ∷ ScopeName (at 1 1 19) (codes "M")
          ∷ ScopeName (at 1 1 31) (codes "IMMORTAL")
          ∷ DefineScope (at 1 1 1) 44 45 false
          ∷ Flags (at 1 1 1) (Some 46) None None false false false
          ∷ SuperType (at 1 1 62) (codes "Mission") None
          ∷ Supers (at 1 1 54) (Some 48) []
          ∷ LongType (at 1 1 79)
          ∷ Number (at 1 1 113) 0 false
          ∷ Return (at 1 1 106) (Some 51)
          ∷ Block (at 1 1 104) (52 ∷ [])
          ∷ Method (at 1 1 84) (codes "missionMemorySize") None 50 None (Some 53)
          ∷ VoidType (at 1 1 125)
          ∷ Block (at 1 1 143) []
          ∷ Method (at 1 1 130) (codes "initialize") None 55 None (Some 56)
          ∷ Class (at 1 1 49) (codes "Main") (Some 47) (Some 49) (54 ∷ 57 ∷ [])
          ∷ [];
      files = ((15 ∷ 43 ∷ []) ∷ (58 ∷ []) ∷ []);
    }
