-- A small program: a safelet that has no mission and does some arithmetic.
use Rattle.std.specs.Prelude.{ℕ, List, ◌++◌, codes}

abbrev pub arithmetic_text : List ℕ
arithmetic_text =
    codes "class App implements Safelet {\n"
    ++ (codes "  public MissionSequencer getSequencer() { return null; }\n"
    ++ (codes "  public long immortalMemorySize() { return 64; }\n"
    ++ (codes "  public void initializeApplication() {\n"
    ++ (codes "    int m = -2147483648; Trace.print(\"a\", m / -1);\n"
    ++ (codes "    Trace.print(\"b\", m % -1); Trace.print(\"c\", 1 << 33);\n" ++ codes "  }\n}\n")))))
