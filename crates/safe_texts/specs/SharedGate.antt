-- Two texts: a mission with two periodic handlers, which share an object with a ceiling. Printed by
-- expected/check_programs.py.
use Rattle.std.specs.Prelude.{ℕ, List, ◌++◌, codes}

abbrev pub base_text : List ℕ
base_text =
    codes "class App implements Safelet {\n  public MissionSequencer getSequencer() { return new Seq(); }\n"
    ++ (codes "  public long immortalMemorySize() { return 400; }\n  public void initializeApplication() { }\n"
    ++ (codes "}\nclass Seq extends MissionSequencer {\n  int n;\n"
    ++ (codes "  Seq() { super(new PriorityParameters(5), new StorageParameters(0)); }\n"
    ++ (codes "  public Mission getNextMission() {\n    if (n > 0) return null;\n    n = n + 1;\n"
    ++ codes "    return new Main();\n  }\n}\n"))))

abbrev pub gate_text : List ℕ
gate_text =
    codes "@DefineScope(name=\"M\", parent=\"IMMORTAL\") class Main extends Mission {\n"
    ++ (codes "  public long missionMemorySize() { return 300; }\n"
    ++ (codes "  public void initialize() { Gate g = new Gate(); Services.setCeiling(g, 9); new W(5, 0, "
    ++ (codes "g).register(); new W(9, 8000, g).register(); }\n}\n"
    ++ (codes "@Scope(\"M\") class Gate { int n; @RunsIn(CALLER) synchronized void hit(int a) { n = n + a; "
    ++ (codes "Trace.print(\"n\", n); } }\n"
    ++ (codes "@Scope(\"M\") @DefineScope(name=\"P\", parent=\"M\") class W extends PeriodicEventHandler {\n"
    ++ (codes "  int p; Gate g;\n"
    ++ (codes "  W(int a, int s, Gate x) { super(new PriorityParameters(a), new PeriodicParameters(new "
    ++ (codes "RelativeTime(0, s), new RelativeTime(1, 0)), new StorageParameters(0)); p = a; g = x; }\n"
    ++ codes "  public void handleAsyncEvent() { g.hit(p); }\n}\n")))))))))
