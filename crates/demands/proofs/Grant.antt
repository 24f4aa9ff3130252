-- A request answered 0 in the words of 01, and that a lower phone answers 0 to no request that the higher one refuses. Assumes nothing.
use Prim.Native.Nat.{ℕ, ◌≤◌}
use mathlib.Core.{Bool.{Bool, false, not, ◌||◌}, List.Memᴰ, Logic.{◌≢◌, ◌⊎◌, inl, inr, ◌↔◌}, Path.{◌≡◌, subst, subst₂, sym, ◌∙◌}}
use native.{Mathlib.Omega.arith, Mathlib.Nat.le_refl}
use lib.{Dec.{T, eqb, ltb, ltb→lt, lt→ltb, eqb→eq}, ListN.{length, get_or}}
use Rattle.records.specs.{Layout.row_byte, Phone.{Phone, no_row, row_at}, declared.Executable.Executable}
use Rattle.rules.specs.{Forms.action_form, Codes.{executable_named, executable_known, table_byte, has_permission, code_of}, Demands.request_event}
use Rattle.laws.proofs.{Tests.{tests, by_test, nand, not_elim, not_intro, eq→eqb, neqb→ne}, TableRules.{row_at_small, row_at_least}, Accepted.Accepted}
use Rattle.laws.proofs.Shortest.{chains_signed, chains_chain}
use Rattle.demands.specs.Runs.{Granted}
use Rattle.keeping.proofs.{Unrefused.{Unrefused, unrefused}, Naming.{known_executable, the_executable, small_domain}}
use Rattle.keeping.proofs.{Done.{the_tests, unrefused_done, nor_i, nand_i}, Order.{Below, Over, Under}}

-- the request of executable n for action a is granted
abbrev pub granted : Phone → ℕ → ℕ → Bool
granted p n a = eqb (code_of p (request_event n a)) 0

-- the table byte for the domain of executable n
abbrev byte_for : Phone → ℕ → ℕ → ℕ
byte_for p n a = row_byte (row_at p a) (executable_named p n).domain

-- its permission for the action
abbrev permission_for : Phone → ℕ → ℕ → Bool
permission_for p n a = has_permission (executable_named p n) a

-- a request answered 0, taken apart
record Grant (p : Phone) (n a : ℕ) : Type 0 where
  number : n ≢ 0
  in_table : T (ltb a (length p.table))
  known : T (executable_known p n)
  some_byte : byte_for p n a ≢ 0
  permission : byte_for p n a ≡ 1 → T (permission_for p n a)

grant_out : (p : Phone) (n a : ℕ) → T (granted p n a) → Grant p n a
unfolding the_tests action_form table_byte
grant_out p n a h =
    let d : Unrefused p (request_event n a) = unrefused p (request_event n a) h in
    let form : T (action_form p (request_event n a)) = d.formed in
    let known : T (not (not (executable_known p n) || false || false)) = d.known in
    let byte : T (not (eqb (byte_for p n a) 0)) = d.table_open in
    record {
      number = search tests;
      in_table = search tests;
      known = search tests;
      some_byte = search tests;
      permission = λ one.
          let needed : T (eqb (byte_for p n a) 1) = eq→eqb (byte_for p n a) 1 one in
          not_elim (permission_for p n a) (nand (eqb (byte_for p n a) 1) (not (permission_for p n a)) d.permitted needed);
    }

grant_in : (p : Phone) (n a : ℕ) → Grant p n a → T (granted p n a)
unfolding the_tests action_form table_byte
grant_in p n a g =
    unrefused_done p (request_event n a) tt
    (record {
      formed = search tests;
      known = nor_i (not (executable_known p n) || false) false (nor_i (not (executable_known p n)) false (not_intro (executable_known p n) g.known) tt) tt;
      allowed = tt;
      forward = tt;
      in_table = tt;
      right_card = tt;
      here = tt;
      fresh = tt;
      own_key = tt;
      install_own = tt;
      mark_own = tt;
      such_root = tt;
      none_valid = tt;
      room = tt;
      table_open = search tests;
      permitted =
          nand_i (eqb (byte_for p n a) 1) (not (permission_for p n a))
          (λ one. not_intro (permission_for p n a) (g.permission (eqb→eq (byte_for p n a) 1 one)));
      replaces = tt;
      dated = tt;
    })

-- I6: the byte for domain 0 is the least
below_byte : (p : Phone) → Accepted p → (a : ℕ) (lo hi : Executable) → Memᴰ hi p.executables → Below lo hi
    → row_byte (row_at p a) lo.domain ≤ row_byte (row_at p a) hi.domain
below_byte p ok a lo hi m b = go b.domain
  where
    go : (lo.domain ≡ 0) ⊎ (lo.domain ≡ hi.domain) → row_byte (row_at p a) lo.domain ≤ row_byte (row_at p a) hi.domain
    go (inl e) =
        subst (λ d. row_byte (row_at p a) d ≤ row_byte (row_at p a) hi.domain) (sym e)
        (row_at_least p ok a hi.domain (small_domain p ok hi m))
    go (inr e) = subst (λ d. row_byte (row_at p a) lo.domain ≤ row_byte (row_at p a) d) e (le_refl _)

-- ---- a grant, in the words of 01

pub granted_exact : (p : Phone) → Accepted p → (n a : ℕ) → T (granted p n a) ↔ Granted p n a
granted_exact p ok n a = (λ h. there (grant_out p n a h), λ g. grant_in p n a (back g g.byte))
  where
    x : Executable
    x = executable_named p n

    byte : Grant p n a → (byte_for p n a ≡ 2) ⊎ ((byte_for p n a ≡ 1) × T (permission_for p n a))
    byte g =
        by_test (eqb (byte_for p n a) 1)
        (λ t. let one = eqb→eq (byte_for p n a) 1 t in inr (one, g.permission one))
        (λ t. inl (omega (arith, g.some_byte, neqb→ne (byte_for p n a) 1 t, row_at_small p ok a x.domain)))

    there : Grant p n a → Granted p n a
    there g =
        record {
          number = g.number;
          known = g.known;
          action = ltb→lt a (length p.table) g.in_table;
          byte = byte g;
          chain = λ nz.
              let c = ok.chained x (known_executable p n g.known).0 nz in
              (chains_signed p.trust x.signing x.domain c, chains_chain p.trust x.signing x.domain c);
        }

    grant : Granted p n a → byte_for p n a ≢ 0 → (byte_for p n a ≡ 1 → T (permission_for p n a)) → Grant p n a
    grant g some permission =
        record { number = g.number; in_table = lt→ltb a (length p.table) g.action; known = g.known; some_byte = some; permission = permission }

    back : Granted p n a → (byte_for p n a ≡ 2) ⊎ ((byte_for p n a ≡ 1) × T (permission_for p n a)) → Grant p n a
    back g (inl two) = grant g (omega arith) (λ one. absurd (omega arith))
    back g (inr one) = grant g (omega arith) (λ z. one.1)

-- ---- a lower phone grants no more

pub no_more : (q p : Phone) → Under q p → Accepted p → (n a : ℕ) → T (granted q n a) → T (granted p n a)
no_more q p u ok n a h =
    grant_in p n a
    (record { number = g.number; in_table = in_table; known = the.0; some_byte = omega (arith, g.some_byte, more); permission = permission })
  where
    g : Grant q n a
    g = grant_out q n a h

    own : Memᴰ (executable_named q n) q.executables × ((executable_named q n).id ≡ n)
    own = known_executable q n g.known

    o : Over p (executable_named q n)
    o = u.executables (executable_named q n) own.0 (λ z. g.number (sym own.1 ∙ z))

    the : T (executable_known p n) × (executable_named p n ≡ o.executable)
    the = the_executable p ok o.executable n o.mem (sym o.below.id ∙ own.1) g.number

    in_table : T (ltb a (length p.table))
    in_table = subst (λ t. T (ltb a (length t))) u.table g.in_table

    more : byte_for q n a ≤ byte_for p n a
    more =
        subst₂ (λ t x. row_byte (get_or t a no_row) (executable_named q n).domain ≤ row_byte (row_at p a) x.domain) (sym u.table) (sym the.1)
        (below_byte p ok a (executable_named q n) o.executable o.mem o.below)

    permission : byte_for p n a ≡ 1 → T (permission_for p n a)
    permission one =
        subst (λ x. T (has_permission x a)) (sym the.1)
        (o.below.permissions a (g.permission (omega (arith, g.some_byte, more))))
