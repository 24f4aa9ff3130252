-- THE THEOREMS of 02, item 2, for an accepted phone p and any executable x. Each sentence with its statement. Assumes nothing.
-- What they speak of: `explained`, `reasons`, `holders`, `its_chain` (specs/Why), `First`, `Refusal`, `Rising`, `LowestEach`,
-- `cases` (specs/Claims), and `Chain`, `Shortest` (rules, specs/Explicit).
use Prim.Native.Nat.{ℕ, ◌≤◌}
use mathlib.Core.{Bool.{true, not}, List.{List, [], ◌∷◌, map, Memᴰ, map-map}, Logic.{◌≢◌, ◌↔◌}, Path.{◌≡◌, refl}}
use native.Mathlib.Omega.{arith}
use lib.{Dec.{T, eqb, eqb→eq}, ListN.length}
use Rattle.records.specs.{Sizes.most_certificates, Phone.{Phone, decode}, declared.Certificate.Certificate, declared.Executable.Executable}
use Rattle.records.proofs.{FrameFacts.fields, Said.length_certificates}
use Rattle.rules.specs.{Chains.{links, most_links}, Explicit.{Chain, Shortest, ChainWithin}, ImageRules.accepted, Codes.executable_named}
use Rattle.laws.proofs.{Tests.neqb→ne, Accepted.Accepted, Accepts.accepted_out, Domain.one_domain}
use Rattle.explanations.specs.Why.{Line, holders, its_domain, its_chain, said_recovery, reason, reason_line, untrusted_line, unsigned_line, unheld_line}
use Rattle.explanations.specs.Why.{chained, unsigned, held, despite, chain_lines, reason_lines, explained, explanation}
use Rattle.explanations.specs.Claims.{count, cases, Rising, Refusal, LowestEach, NotAfter}
use Rattle.explanations.proofs.{LowestId.cond_cases, Reasons.recovery_first, Refusals.{refusal_told, refusal_some, refusal_each}}
use Rattle.explanations.proofs.{Holders.{holders_rising, holders_out, holders_in}, Climb.{told_shortest, told_lowest}, Foremost.told_foremost}
use Rattle.explanations.proofs.Lengths.{explained_some, explained_few}
use Rattle.explanations.proofs.Cases as Cases

module _ (p : Phone) (ok : Accepted p) (x : Executable) where
  -- ==== The cases

  -- exactly one of the four applies
  pub why_one : count (λ b. b) (cases p.trust x) ≡ 1
  why_one = Cases.one_case p.trust x

  -- the first is that its key is not 0 and there is a chain of at most 4 records
  pub why_chains : T (chained p.trust x) ↔ ((d : ℕ) × (d ≢ 0) × (x.signing ≢ 0) × ChainWithin most_links p.trust d x.signing)
  why_chains = (
    λ c. Cases.chained_out p.cards p.trust ok.trust.held x c,
    λ w. Cases.chained_in p.cards p.trust ok.trust.held x w.0 w.1 w.2 w.3,
  )

  -- "If that chains to a domain, it prints a shortest chain .. root first"
  pub why_chained : T (chained p.trust x) → explained p.trust x ≡ chain_lines p.trust x
  why_chained c = Cases.explained_chain p.trust x c

  -- "An unsigned executable, one whose key nobody holds .. have a line each"
  pub why_unsigned : T (unsigned x) → explained p.trust x ≡ unsigned_line x ∷ []
  why_unsigned u = Cases.explained_unsigned p.trust x u

  pub why_unheld : T (not (unsigned x)) → T (not (held p.trust x)) → explained p.trust x ≡ unheld_line x ∷ []
  why_unheld s n = Cases.explained_unheld p.trust x s n

  -- "If not, it prints for every record with the signing key .. the first true reason"
  pub why_refused : T (not (unsigned x)) → T (held p.trust x) → T (not (chained p.trust x)) → explained p.trust x ≡ reason_lines p.trust x
  why_refused s h n = Cases.explained_reasons p.trust x s h n

  -- "and one in domain 0 despite a chain": the chain's last line is there exactly then
  pub why_despite : (x.domain ≡ 0 → despite x ≡ untrusted_line x ∷ []) × (x.domain ≢ 0 → despite x ≡ [])
  unfolding despite
  why_despite = (
    λ z. cond_cases (λ l. l ≡ untrusted_line x ∷ []) (eqb x.domain 0) _ _ (λ e. refl) (λ e. absurd (neqb→ne x.domain 0 e z)),
    λ n. cond_cases (λ l. l ≡ []) (eqb x.domain 0) _ _ (λ e. absurd (n (eqb→eq x.domain 0 e))) (λ e. refl),
  )

  -- ==== The reasons

  -- "The named reason is true, those before it are not": a line with a reason (its number is 10 or above) names a stored record with the signing key
  pub why_true : (n : Line) → Memᴰ n (explained p.trust x) → 10 ≤ n.what → Refusal p.trust x.signing n
  why_true n m r = refusal_told p.cards p.trust ok.trust.held x n m r

  -- 02, item 4, of a recovery record: "for Item 2 that is a reason before the others"
  pub why_recovery : (c : Certificate) → c.kind ≡ 2 → reason p.trust c ≡ said_recovery
  why_recovery c r = recovery_first p.trust c r

  -- a reason there always is
  pub why_some : T (not (unsigned x)) → T (not (chained p.trust x)) → (c : Certificate) → Memᴰ c p.trust.certificates
      → c.key ≡ x.signing → reason p.trust c ≢ 0
  why_some s n c m e = refusal_some p.cards p.trust ok.trust.held x s n c m e

  -- "no record with that key is missed": each has its line
  pub why_each : T (not (unsigned x)) → T (not (chained p.trust x)) → (c : Certificate) → Memᴰ c p.trust.certificates
      → c.key ≡ x.signing → Memᴰ (reason_line p.trust c) (explained p.trust x)
  why_each s n c m e = refusal_each p.cards p.trust ok.trust.held x s n c m e

  -- and no other is named
  pub why_every : x.signing ≢ 0 → (c : Certificate)
      → (Memᴰ c p.trust.certificates × (c.key ≡ x.signing)) ↔ Memᴰ c (holders p.trust x.signing)
  why_every signed c = (
    λ m. holders_in p.cards p.trust ok.trust.held x.signing signed c m.0 m.1,
    λ m. holders_out p.trust x.signing c m,
  )

  -- "in order of id"
  pub why_rising : Rising 0 (map (λ n. n.id) (reason_lines p.trust x))
  why_rising = rw map-map (holders_rising p.trust x.signing)

  -- ==== The chain

  -- "a shortest chain": what is told, signer first, is a chain of the least number of records
  pub why_chain : T (chained p.trust x)
      → (s : Shortest p.trust (its_domain p.trust x) x.signing (links p.trust x.signing (its_domain p.trust x)))
      × (s.records ≡ its_chain p.trust x)
  unfolding chained
  why_chain c =
      let d = its_domain p.trust x in
      told_shortest p.cards p.trust ok.trust.held d (neqb→ne d 0 c) x.signing (Cases.chained_chains p.trust x c)

  -- "at each link the lowest certificate id that serves, chosen from the signer up"
  pub why_lowest : T (chained p.trust x)
      → LowestEach p.trust (its_domain p.trust x) x.signing (its_chain p.trust x)
  unfolding chained
  why_lowest c =
      let d = its_domain p.trust x in
      told_lowest p.cards p.trust ok.trust.held d (neqb→ne d 0 c) x.signing

  -- so that of all chains as short it is the first in the order of ids
  pub why_foremost : T (chained p.trust x) → (l : List Certificate) → Chain p.trust (its_domain p.trust x) x.signing l
      → length l ≡ links p.trust x.signing (its_domain p.trust x)
      → NotAfter (its_chain p.trust x) l
  unfolding chained
  why_foremost c =
      let d = its_domain p.trust x in
      told_foremost p.cards p.trust ok.trust.held d (neqb→ne d 0 c) x.signing

  -- an executable that has a domain chains to it, and the chain told is of that domain
  pub why_domain : Memᴰ x p.executables → x.domain ≢ 0 → T (chained p.trust x) → x.domain ≡ its_domain p.trust x
  why_domain m nz c =
      let d = its_domain p.trust x in
      one_domain p.trust ok.trust.held.keys x.signing x.domain d (ok.chained x m nz) (Cases.chained_chains p.trust x c)

  -- ==== The lines

  pub why_never_empty : 1 ≤ length (explained p.trust x)
  why_never_empty = explained_some p.cards p.trust ok.trust.held x

  pub why_few : length p.trust.certificates ≤ most_certificates → length (explained p.trust x) ≤ most_certificates
  why_few h = explained_few p.cards p.trust ok.trust.held x most_certificates (omega arith) h

-- of an accepted image's bytes l: 64 lines always suffice
pub image_lines : (l : List ℕ) → accepted l ≡ true → (n : ℕ) → (1 ≤ length (explanation (decode l) n)) × (length (explanation (decode l) n) ≤ 64)
unfolding explanation
image_lines l h n =
    let a = accepted_out l h in
    let x = executable_named (decode l) n in
    (why_never_empty (decode l) a.1 x, why_few (decode l) a.1 x (omega (arith, length_certificates l, (fields l a.0).certificates)))
