-- Runs of the machine on whole files, and how many lexemes it takes of others before it refuses one.
use Rattle.std.proofs.Common.{refl}
use Rattle.std.specs.Prelude.{List, None, Some, [], codes, is_some, suc, true, ℕ, ◌∷◌, ◌≡◌}
use Rattle.machine_laws.proofs.Tools.{next}
use Rattle.parser_machine.specs.Machine.{answer, start, step}
use Rattle.parser_machine.specs.States.{State}
use Rattle.scj_base.specs.declared.positions.Position.{Position}
use Rattle.scj_tree.specs.Lexemes.{Lexeme, a_name, a_number, a_sign, a_text, a_word, the_end}
use Rattle.machine_laws.proofs.Computing.{parser}

-- how many lexemes are taken
unfoldable taken : State → List Lexeme → ℕ
taken st [] = 0
taken st (t ∷ o) = elim (step st t) [ Some next ↦ suc (taken next o) | None ↦ 0 ]

-- class A{int x;}
accepted1 : (p : Position) →
    is_some
    (answer (start []) (a_word 8 p ∷ a_name (codes "A") p ∷ a_sign 0 p ∷ a_word 27 p ∷ a_name (codes "x") p ∷ a_sign 6 p
    ∷ a_sign 1 p ∷ the_end p ∷ [])) ≡ true
unfolding parser
accepted1 p = refl

-- an empty file
accepted2 : (p : Position) → is_some (answer (start []) (the_end p ∷ [])) ≡ true
unfolding parser
accepted2 p = refl

-- package a.b; import static c.d; import e.f.*; class A{}
accepted3 : (p : Position) →
    is_some
    (answer (start []) (a_word 33 p ∷ a_name (codes "a") p ∷ a_sign 8 p ∷ a_name (codes "b") p ∷ a_sign 6 p
    ∷ a_word 25 p ∷ a_word 39 p ∷ a_name (codes "c") p ∷ a_sign 8 p ∷ a_name (codes "d") p ∷ a_sign 6 p ∷ a_word 25 p
    ∷ a_name (codes "e") p ∷ a_sign 8 p ∷ a_name (codes "f") p ∷ a_sign 8 p ∷ a_sign 19 p ∷ a_sign 6 p ∷ a_word 8 p
    ∷ a_name (codes "A") p ∷ a_sign 0 p ∷ a_sign 1 p ∷ the_end p ∷ [])) ≡ true
unfolding parser
accepted3 p = refl

-- public class A extends MissionSequencer<M> implements Safelet<N>, Runnable { A(int a, B[] b){ super(new C(1), a); x =
-- -2147483648.f; } }
accepted4 : (p : Position) →
    is_some
    (answer (start []) (a_word 36 p ∷ a_word 8 p ∷ a_name (codes "A") p ∷ a_word 16 p
    ∷ a_name (codes "MissionSequencer") p ∷ a_sign 13 p ∷ a_name (codes "M") p ∷ a_sign 14 p ∷ a_word 24 p
    ∷ a_name (codes "Safelet") p ∷ a_sign 13 p ∷ a_name (codes "N") p ∷ a_sign 14 p ∷ a_sign 7 p
    ∷ a_name (codes "Runnable") p ∷ a_sign 0 p ∷ a_name (codes "A") p ∷ a_sign 2 p ∷ a_word 27 p ∷ a_name (codes "a") p
    ∷ a_sign 7 p ∷ a_name (codes "B") p ∷ a_sign 4 p ∷ a_sign 5 p ∷ a_name (codes "b") p ∷ a_sign 3 p ∷ a_sign 0 p
    ∷ a_word 41 p ∷ a_sign 2 p ∷ a_word 31 p ∷ a_name (codes "C") p ∷ a_sign 2 p ∷ a_number 1 p ∷ a_sign 3 p
    ∷ a_sign 7 p ∷ a_name (codes "a") p ∷ a_sign 3 p ∷ a_sign 6 p ∷ a_name (codes "x") p ∷ a_sign 10 p ∷ a_sign 18 p
    ∷ a_number 2147483648 p ∷ a_sign 8 p ∷ a_name (codes "f") p ∷ a_sign 6 p ∷ a_sign 1 p ∷ a_sign 1 p ∷ the_end p
    ∷ [])) ≡ true
unfolding parser
accepted4 p = refl

-- class A { void m(int x){x+=2*3;x++; int[] a; B b = (C) y; q[1] = (x) - 1; a.b().c = new int[3].length; if (a) if (b)
-- ; else ; for (int i = 0; i < 3; i++) { return; } for (x = 1; true; x -= 2) while (!c) m("t", 1); return a + b * c -
-- d; } abstract long f(); static private int g = -5; }
accepted5 : (p : Position) →
    is_some
    (answer (start []) (a_word 8 p ∷ a_name (codes "A") p ∷ a_sign 0 p ∷ a_word 50 p ∷ a_name (codes "m") p ∷ a_sign 2 p
    ∷ a_word 27 p ∷ a_name (codes "x") p ∷ a_sign 3 p ∷ a_sign 0 p ∷ a_name (codes "x") p ∷ a_sign 36 p ∷ a_number 2 p
    ∷ a_sign 19 p ∷ a_number 3 p ∷ a_sign 6 p ∷ a_name (codes "x") p ∷ a_sign 34 p ∷ a_sign 6 p ∷ a_word 27 p
    ∷ a_sign 4 p ∷ a_sign 5 p ∷ a_name (codes "a") p ∷ a_sign 6 p ∷ a_name (codes "B") p ∷ a_name (codes "b") p
    ∷ a_sign 10 p ∷ a_sign 2 p ∷ a_name (codes "C") p ∷ a_sign 3 p ∷ a_name (codes "y") p ∷ a_sign 6 p
    ∷ a_name (codes "q") p ∷ a_sign 4 p ∷ a_number 1 p ∷ a_sign 5 p ∷ a_sign 10 p ∷ a_sign 2 p ∷ a_name (codes "x") p
    ∷ a_sign 3 p ∷ a_sign 18 p ∷ a_number 1 p ∷ a_sign 6 p ∷ a_name (codes "a") p ∷ a_sign 8 p ∷ a_name (codes "b") p
    ∷ a_sign 2 p ∷ a_sign 3 p ∷ a_sign 8 p ∷ a_name (codes "c") p ∷ a_sign 10 p ∷ a_word 31 p ∷ a_word 27 p ∷ a_sign 4 p
    ∷ a_number 3 p ∷ a_sign 5 p ∷ a_sign 8 p ∷ a_name (codes "length") p ∷ a_sign 6 p ∷ a_word 23 p ∷ a_sign 2 p
    ∷ a_name (codes "a") p ∷ a_sign 3 p ∷ a_word 23 p ∷ a_sign 2 p ∷ a_name (codes "b") p ∷ a_sign 3 p ∷ a_sign 6 p
    ∷ a_word 14 p ∷ a_sign 6 p ∷ a_word 21 p ∷ a_sign 2 p ∷ a_word 27 p ∷ a_name (codes "i") p ∷ a_sign 10 p
    ∷ a_number 0 p ∷ a_sign 6 p ∷ a_name (codes "i") p ∷ a_sign 13 p ∷ a_number 3 p ∷ a_sign 6 p ∷ a_name (codes "i") p
    ∷ a_sign 34 p ∷ a_sign 3 p ∷ a_sign 0 p ∷ a_word 37 p ∷ a_sign 6 p ∷ a_sign 1 p ∷ a_word 21 p ∷ a_sign 2 p
    ∷ a_name (codes "x") p ∷ a_sign 10 p ∷ a_number 1 p ∷ a_sign 6 p ∷ a_word 48 p ∷ a_sign 6 p ∷ a_name (codes "x") p
    ∷ a_sign 37 p ∷ a_number 2 p ∷ a_sign 3 p ∷ a_word 52 p ∷ a_sign 2 p ∷ a_sign 22 p ∷ a_name (codes "c") p
    ∷ a_sign 3 p ∷ a_name (codes "m") p ∷ a_sign 2 p ∷ a_text (codes "t") p ∷ a_sign 7 p ∷ a_number 1 p ∷ a_sign 3 p
    ∷ a_sign 6 p ∷ a_word 37 p ∷ a_name (codes "a") p ∷ a_sign 17 p ∷ a_name (codes "b") p ∷ a_sign 19 p
    ∷ a_name (codes "c") p ∷ a_sign 18 p ∷ a_name (codes "d") p ∷ a_sign 6 p ∷ a_sign 1 p ∷ a_word 0 p ∷ a_word 29 p
    ∷ a_name (codes "f") p ∷ a_sign 2 p ∷ a_sign 3 p ∷ a_sign 6 p ∷ a_word 39 p ∷ a_word 34 p ∷ a_word 27 p
    ∷ a_name (codes "g") p ∷ a_sign 10 p ∷ a_sign 18 p ∷ a_number 5 p ∷ a_sign 6 p ∷ a_sign 1 p ∷ the_end p ∷ []))
    ≡ true
unfolding parser
accepted5 p = refl

-- @DefineScope(name="M", parent=Scope.I) @SuppressWarnings(value="x", a.b, true) @Override final class A { @Scope("M")
-- Mission m; void f() { @Scope(Scope) final B b; B c; B[] d = null; d[0] = b; this.x(); new D(); MissionSequencer<M> s;
-- (a).b = 2; } }
accepted6 : (p : Position) →
    is_some
    (answer (start []) (a_sign 9 p ∷ a_name (codes "DefineScope") p ∷ a_sign 2 p ∷ a_name (codes "name") p ∷ a_sign 10 p
    ∷ a_text (codes "M") p ∷ a_sign 7 p ∷ a_name (codes "parent") p ∷ a_sign 10 p ∷ a_name (codes "Scope") p
    ∷ a_sign 8 p ∷ a_name (codes "I") p ∷ a_sign 3 p ∷ a_sign 9 p ∷ a_name (codes "SuppressWarnings") p ∷ a_sign 2 p
    ∷ a_name (codes "value") p ∷ a_sign 10 p ∷ a_text (codes "x") p ∷ a_sign 7 p ∷ a_name (codes "a") p ∷ a_sign 8 p
    ∷ a_name (codes "b") p ∷ a_sign 7 p ∷ a_word 48 p ∷ a_sign 3 p ∷ a_sign 9 p ∷ a_name (codes "Override") p
    ∷ a_word 18 p ∷ a_word 8 p ∷ a_name (codes "A") p ∷ a_sign 0 p ∷ a_sign 9 p ∷ a_name (codes "Scope") p ∷ a_sign 2 p
    ∷ a_text (codes "M") p ∷ a_sign 3 p ∷ a_name (codes "Mission") p ∷ a_name (codes "m") p ∷ a_sign 6 p ∷ a_word 50 p
    ∷ a_name (codes "f") p ∷ a_sign 2 p ∷ a_sign 3 p ∷ a_sign 0 p ∷ a_sign 9 p ∷ a_name (codes "Scope") p ∷ a_sign 2 p
    ∷ a_name (codes "Scope") p ∷ a_sign 3 p ∷ a_word 18 p ∷ a_name (codes "B") p ∷ a_name (codes "b") p ∷ a_sign 6 p
    ∷ a_name (codes "B") p ∷ a_name (codes "c") p ∷ a_sign 6 p ∷ a_name (codes "B") p ∷ a_sign 4 p ∷ a_sign 5 p
    ∷ a_name (codes "d") p ∷ a_sign 10 p ∷ a_word 32 p ∷ a_sign 6 p ∷ a_name (codes "d") p ∷ a_sign 4 p ∷ a_number 0 p
    ∷ a_sign 5 p ∷ a_sign 10 p ∷ a_name (codes "b") p ∷ a_sign 6 p ∷ a_word 44 p ∷ a_sign 8 p ∷ a_name (codes "x") p
    ∷ a_sign 2 p ∷ a_sign 3 p ∷ a_sign 6 p ∷ a_word 31 p ∷ a_name (codes "D") p ∷ a_sign 2 p ∷ a_sign 3 p ∷ a_sign 6 p
    ∷ a_name (codes "MissionSequencer") p ∷ a_sign 13 p ∷ a_name (codes "M") p ∷ a_sign 14 p ∷ a_name (codes "s") p
    ∷ a_sign 6 p ∷ a_sign 2 p ∷ a_name (codes "a") p ∷ a_sign 3 p ∷ a_sign 8 p ∷ a_name (codes "b") p ∷ a_sign 10 p
    ∷ a_number 2 p ∷ a_sign 6 p ∷ a_sign 1 p ∷ a_sign 1 p ∷ the_end p ∷ [])) ≡ true
unfolding parser
accepted6 p = refl

-- class C { void m() { synchronized (this) { } } }
refused7 : (p : Position) →
    taken (start []) (a_word 8 p ∷ a_name (codes "C") p ∷ a_sign 0 p ∷ a_word 50 p ∷ a_name (codes "m") p ∷ a_sign 2 p
    ∷ a_sign 3 p ∷ a_sign 0 p ∷ a_word 43 p ∷ a_sign 2 p ∷ a_word 44 p ∷ a_sign 3 p ∷ a_sign 0 p ∷ a_sign 1 p
    ∷ a_sign 1 p ∷ a_sign 1 p ∷ the_end p ∷ []) ≡ 8
unfolding parser taken
refused7 p = refl

-- class A { void m() { x = ; } }
refused8 : (p : Position) →
    taken (start []) (a_word 8 p ∷ a_name (codes "A") p ∷ a_sign 0 p ∷ a_word 50 p ∷ a_name (codes "m") p ∷ a_sign 2 p
    ∷ a_sign 3 p ∷ a_sign 0 p ∷ a_name (codes "x") p ∷ a_sign 10 p ∷ a_sign 6 p ∷ a_sign 1 p ∷ a_sign 1 p ∷ the_end p
    ∷ []) ≡ 10
unfolding parser taken
refused8 p = refl

-- class A { int x; } }
refused9 : (p : Position) →
    taken (start []) (a_word 8 p ∷ a_name (codes "A") p ∷ a_sign 0 p ∷ a_word 27 p ∷ a_name (codes "x") p ∷ a_sign 6 p
    ∷ a_sign 1 p ∷ a_sign 1 p ∷ the_end p ∷ []) ≡ 7
unfolding parser taken
refused9 p = refl

-- public public class A { }
refused10 : (p : Position) → taken (start []) (a_word 36 p ∷ a_word 36 p ∷ a_word 8 p ∷ a_name (codes "A") p ∷ a_sign 0 p
    ∷ a_sign 1 p ∷ the_end p ∷ []) ≡ 1
unfolding parser taken
refused10 p = refl

-- class A { final final int x; }
refused11 : (p : Position) → taken (start []) (a_word 8 p ∷ a_name (codes "A") p ∷ a_sign 0 p ∷ a_word 18 p ∷ a_word 18 p
    ∷ a_word 27 p ∷ a_name (codes "x") p ∷ a_sign 6 p ∷ a_sign 1 p ∷ the_end p ∷ []) ≡ 4
unfolding parser taken
refused11 p = refl

-- class A { void m() { a + b; } }
refused12 : (p : Position) →
    taken (start []) (a_word 8 p ∷ a_name (codes "A") p ∷ a_sign 0 p ∷ a_word 50 p ∷ a_name (codes "m") p ∷ a_sign 2 p
    ∷ a_sign 3 p ∷ a_sign 0 p ∷ a_name (codes "a") p ∷ a_sign 17 p ∷ a_name (codes "b") p ∷ a_sign 6 p ∷ a_sign 1 p
    ∷ a_sign 1 p ∷ the_end p ∷ []) ≡ 9
unfolding parser taken
refused12 p = refl

-- class A { void m() { (a) b; } }
refused13 : (p : Position) →
    taken (start []) (a_word 8 p ∷ a_name (codes "A") p ∷ a_sign 0 p ∷ a_word 50 p ∷ a_name (codes "m") p ∷ a_sign 2 p
    ∷ a_sign 3 p ∷ a_sign 0 p ∷ a_sign 2 p ∷ a_name (codes "a") p ∷ a_sign 3 p ∷ a_name (codes "b") p ∷ a_sign 6 p
    ∷ a_sign 1 p ∷ a_sign 1 p ∷ the_end p ∷ []) ≡ 11
unfolding parser taken
refused13 p = refl

-- class A { int m() { return 2147483648; } }
refused14 : (p : Position) →
    taken (start []) (a_word 8 p ∷ a_name (codes "A") p ∷ a_sign 0 p ∷ a_word 27 p ∷ a_name (codes "m") p ∷ a_sign 2 p
    ∷ a_sign 3 p ∷ a_sign 0 p ∷ a_word 37 p ∷ a_number 2147483648 p ∷ a_sign 6 p ∷ a_sign 1 p ∷ a_sign 1 p ∷ the_end p
    ∷ []) ≡ 9
unfolding parser taken
refused14 p = refl

-- class A { int m() { return new int[2][1]; } }
refused15 : (p : Position) →
    taken (start []) (a_word 8 p ∷ a_name (codes "A") p ∷ a_sign 0 p ∷ a_word 27 p ∷ a_name (codes "m") p ∷ a_sign 2 p
    ∷ a_sign 3 p ∷ a_sign 0 p ∷ a_word 37 p ∷ a_word 31 p ∷ a_word 27 p ∷ a_sign 4 p ∷ a_number 2 p ∷ a_sign 5 p
    ∷ a_sign 4 p ∷ a_number 1 p ∷ a_sign 5 p ∷ a_sign 6 p ∷ a_sign 1 p ∷ a_sign 1 p ∷ the_end p ∷ []) ≡ 14
unfolding parser taken
refused15 p = refl

-- class A { void x; }
refused16 : (p : Position) →
    taken (start []) (a_word 8 p ∷ a_name (codes "A") p ∷ a_sign 0 p ∷ a_word 50 p ∷ a_name (codes "x") p ∷ a_sign 6 p
    ∷ a_sign 1 p ∷ the_end p ∷ []) ≡ 5
unfolding parser taken
refused16 p = refl

-- class A { A() { ; super(); } }
refused17 : (p : Position) → taken (start []) (a_word 8 p ∷ a_name (codes "A") p ∷ a_sign 0 p ∷ a_name (codes "A") p
    ∷ a_sign 2 p ∷ a_sign 3 p ∷ a_sign 0 p ∷ a_sign 6 p ∷ a_word 41 p ∷ a_sign 2 p ∷ a_sign 3 p ∷ a_sign 6 p
    ∷ a_sign 1 p ∷ a_sign 1 p ∷ the_end p ∷ []) ≡ 8
unfolding parser taken
refused17 p = refl

-- class A { B<M> x; }
refused18 : (p : Position) → taken (start []) (a_word 8 p ∷ a_name (codes "A") p ∷ a_sign 0 p ∷ a_name (codes "B") p
    ∷ a_sign 13 p ∷ a_name (codes "M") p ∷ a_sign 14 p ∷ a_name (codes "x") p ∷ a_sign 6 p ∷ a_sign 1 p ∷ the_end p
    ∷ []) ≡ 4
unfolding parser taken
refused18 p = refl

-- @Scope(M) @Scope(N) class A { }
refused19 : (p : Position) → taken (start []) (a_sign 9 p ∷ a_name (codes "Scope") p ∷ a_sign 2 p ∷ a_name (codes "M") p
    ∷ a_sign 3 p ∷ a_sign 9 p ∷ a_name (codes "Scope") p ∷ a_sign 2 p ∷ a_name (codes "N") p ∷ a_sign 3 p ∷ a_word 8 p
    ∷ a_name (codes "A") p ∷ a_sign 0 p ∷ a_sign 1 p ∷ the_end p ∷ []) ≡ 6
unfolding parser taken
refused19 p = refl

-- class A { void m() { m(); a(1; } }
refused20 : (p : Position) →
    taken (start []) (a_word 8 p ∷ a_name (codes "A") p ∷ a_sign 0 p ∷ a_word 50 p ∷ a_name (codes "m") p ∷ a_sign 2 p
    ∷ a_sign 3 p ∷ a_sign 0 p ∷ a_name (codes "m") p ∷ a_sign 2 p ∷ a_sign 3 p ∷ a_sign 6 p ∷ a_name (codes "a") p
    ∷ a_sign 2 p ∷ a_number 1 p ∷ a_sign 6 p ∷ a_sign 1 p ∷ a_sign 1 p ∷ the_end p ∷ []) ≡ 15
unfolding parser taken
refused20 p = refl

-- class A { void m() { a(); } import
refused21 : (p : Position) →
    taken (start []) (a_word 8 p ∷ a_name (codes "A") p ∷ a_sign 0 p ∷ a_word 50 p ∷ a_name (codes "m") p ∷ a_sign 2 p
    ∷ a_sign 3 p ∷ a_sign 0 p ∷ a_name (codes "a") p ∷ a_sign 2 p ∷ a_sign 3 p ∷ a_sign 6 p ∷ a_sign 1 p ∷ a_word 25 p
    ∷ the_end p ∷ []) ≡ 13
unfolding parser taken
refused21 p = refl
