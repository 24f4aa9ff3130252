-- How many lines an explanation has: one at least, and no more than there are slots, or five. Assumes nothing.
use Prim.Native.Nat.{ℕ, suc, ◌≤◌}
use mathlib.Core.{Bool.not, List.{List, [], ◌∷◌, Memᴰ}}
use native.Mathlib.Omega.{arith}
use lib.{Dec.{T, eqb, eqb→eq}, ListN.{length, length-append, length-map, length-reverse}}
use Rattle.records.specs.{Phone.Trust, declared.Card.Card, declared.Executable.Executable}
use Rattle.rules.specs.Chains.{most_links}
use Rattle.laws.proofs.{Tests.neqb→ne, Lists.any_out, Accepted.Held}
use Rattle.explanations.specs.Why.{has_key, holders, its_domain, untrusted_line, chained, unsigned, held, despite, chain_lines, explained}
use Rattle.explanations.proofs.{LowestId.cond_cases, Holders.{holders_few, holders_in}, Climb.told_length, Cases.{chained_chains, explained_cases}}

mem_long : {A : Type 0} {a : A} {l : List A} → Memᴰ a l → 1 ≤ length l
mem_long (Memᴰ.head e) = omega arith
mem_long (Memᴰ.tail m) = omega arith

despite_long : (x : Executable) → length (despite x) ≤ 1
unfolding despite
despite_long x = cond_cases (λ l. length l ≤ 1) (eqb x.domain 0) (untrusted_line x ∷ []) [] (λ z. omega arith) (λ z. omega arith)

module _ (cards : List Card) (t : Trust) (h : Held cards t.certificates) (x : Executable) where
  chain_length : T (chained t x) → (1 ≤ length (chain_lines t x)) × (length (chain_lines t x) ≤ suc most_links)
  unfolding chained
  chain_length c =
      let d = its_domain t x in
      let a = told_length cards t h d (neqb→ne d 0 c) x.signing (chained_chains t x c) in
      simp (length-append, length-map, length-reverse) (omega (arith, a.0), omega (arith, a.1, despite_long x))

  pub explained_some : 1 ≤ length (explained t x)
  unfolding held unsigned
  explained_some =
      explained_cases t x (λ l. 1 ≤ length l) (λ c. (chain_length c).0) (λ u. omega arith) (λ s n. omega arith) (λ s y n. simp length-map (reasons s y))
    where
      reasons : T (not (unsigned x)) → T (held t x) → 1 ≤ length (holders t x.signing)
      reasons s y =
          let e = any_out (has_key x.signing) t.certificates y in
          mem_long (holders_in cards t h x.signing (neqb→ne x.signing 0 s) e.it e.mem (eqb→eq e.it.key x.signing e.passes))

  pub explained_few : (n : ℕ) → suc most_links ≤ n → length t.certificates ≤ n → length (explained t x) ≤ n
  explained_few n five slots =
      explained_cases t x (λ l. length l ≤ n) (λ c. omega (arith, (chain_length c).1)) (λ u. omega arith) (λ s n. omega arith)
      (λ s y n. simp length-map (omega (arith, holders_few t x.signing)))
