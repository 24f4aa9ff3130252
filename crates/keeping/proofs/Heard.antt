-- What a verify and a request find: the executable named keeps its key, its domain is a chain's, and the count that of a shortest one. Assumes nothing.
use Prim.Native.Nat.{ℕ, ◌≤◌}
use mathlib.Core.{Bool.{Bool, true, false, cond, not, ◌&&◌, ◌||◌}, List.{List, [], ◌∷◌, map, Memᴰ}, Logic.{◌≢◌, ◌⊎◌, inl, inr, ◌↔◌}}
use mathlib.Core.Path.{◌≡◌, refl, subst, sym, ap, ◌∙◌}
use native.Mathlib.Omega.{arith}
use lib.Dec.{T, T_not, eqb}
use Rattle.records.specs.{Phone.{Trust, Phone, no_certificate, no_executable}, declared.Certificate.Certificate, declared.Event.Event}
use Rattle.rules.specs.{Words.{between, any, at, find}, Chains.{most_links, chains_to, chain_domain, links}}
use Rattle.rules.specs.{Explicit.{Chain, ends, goes_on, ChainWithin, Shortest}, Codes.{is_executable, executable_named, executable_known, id_unknown, code_of}}
use Rattle.rules.specs.Effects.{changed}
use Rattle.laws.proofs.{Tests.{tests, nand, not_elim}, Lists.find_in, Accepted.{Occupied, Accepted}, Changes.at_cases}
use Rattle.laws.proofs.{Shortest.{chains_signed, chains_chain, chain_chains, links_small, links_shortest, links_none}, Domain.{chain_domain_is, chain_found}}
use Rattle.keeping.proofs.{Unrefused.unrefused, Naming.known_executable, Settle.request_changed}
use Rattle.keeping.proofs.Verified.{verdict, one_verified, verdict_chains, verify_changed}

-- ---- the executable named

-- changed with its number kept, it is found where it was
find_map : {A : Type 0} (t : A → Bool) (f : A → A) (d : A) (l : List A) → ((x : A) → t (f x) ≡ t x) → T (any t l) → find t d (map f l) ≡ f (find t d l)
unfolding find any
find_map t f d [] h k = absurd k
find_map {A} t f d (x ∷ l) h k = rw (h x) (go (t x) k (find_map t f d l h))
  where
    go : (b : Bool) → T (b || any t l) → (T (any t l) → find t d (map f l) ≡ f (find t d l)) → cond b (f x) (find t d (map f l)) ≡ f (cond b x (find t d l))
    go true k r = refl
    go false k r = r k

at_yes : {A : Type 0} (t : A → Bool) (f : A → A) (x : A) → T (t x) → at t f x ≡ f x
at_yes t f x h = at_cases (λ lo hi. lo ≡ f hi) t f x (λ k. refl) (λ n. absurd (T_not (t x) n h))

pub named_verified : (p : Phone) (n : ℕ) → T (executable_known p n) → executable_named (one_verified n p) n ≡ verdict p.trust (executable_named p n)
unfolding executable_named executable_known
named_verified p n k =
    let f = at (is_executable n) (verdict p.trust) in
    find_map (is_executable n) f no_executable p.executables
    (λ x. at_cases (λ lo hi. is_executable n lo ≡ is_executable n hi) (is_executable n) (verdict p.trust) x (λ t. refl) (λ t. refl)) k
    ∙ at_yes (is_executable n) (verdict p.trust) (executable_named p n) (find_in (is_executable n) no_executable p.executables k).1

-- ---- a verify and a request

-- of executable n in the phone p before and q after: its key and the trust are as they were, and a domain is one that it chains to
pub record Heard (p q : Phone) (n : ℕ) : Type 0 where
  pub trust : q.trust ≡ p.trust
  pub signing : (executable_named q n).signing ≡ (executable_named p n).signing
  pub chains : (executable_named q n).domain ≢ 0 → T (chains_to p.trust (executable_named p n).signing (executable_named q n).domain)

heard_verify : (p : Phone) (n : ℕ) → T (executable_known p n) → Heard p (one_verified n p) n
heard_verify p n k =
    let x = executable_named p n in
    let same = named_verified p n k in
    record {
      trust = refl;
      signing = ap (λ y. y.signing) same;
      chains = subst (λ y. y.domain ≢ 0 → T (chains_to p.trust x.signing y.domain)) (sym same) (verdict_chains p.trust x);
    }

module _ (p : Phone) (ok : Accepted p) (e : Event) (h : T (eqb (code_of p e) 0)) where
  known : T (between 11 15 e.kind) → T (executable_known p e.id)
  unfolding id_unknown
  known b =
      let t = (unrefused p e h).known in
      let w : T (not (between 11 15 e.kind && not (executable_known p e.id))) = search tests in
      not_elim (executable_known p e.id) (nand (between 11 15 e.kind) (not (executable_known p e.id)) w b)

  known_at : (k : ℕ) → e.kind ≡ k → T (between 11 15 k) → T (executable_known p e.id)
  known_at k i b = known (subst (λ k. T (between 11 15 k)) (sym i) b)

  pub heard : (e.kind ≡ 12) ⊎ (e.kind ≡ 15) → Heard p (changed e p) e.id
  heard (inl i) =
      subst (λ q. Heard p q e.id) (sym (verify_changed p e ok i)) (heard_verify p e.id (known_at 12 i tt))
  heard (inr i) =
      subst (λ q. Heard p q e.id) (sym (request_changed p ok e i))
      (record { trust = refl; signing = refl; chains = ok.chained (executable_named p e.id) (known_executable p e.id (known_at 15 i tt)).0 })

  -- "domain becomes what it chains to, else 0"
  pub verify_domain : e.kind ≡ 12 → (executable_named (changed e p) e.id).domain ≡ chain_domain p.trust (executable_named p e.id).signing
  verify_domain i =
      ap (λ q. (executable_named q e.id).domain) (verify_changed p e ok i) ∙ ap (λ x. x.domain) (named_verified p e.id (known_at 12 i tt))

-- ---- a domain is told exactly where there is a chain of at most 4 records

domain_small : (p : Phone) → Accepted p → (c : Certificate) → Memᴰ c p.trust.certificates → c.domain ≤ 3
domain_small p ok c m = go (ok.trust.held.slots c m)
  where
    go : (c ≡ no_certificate) ⊎ Occupied c → c.domain ≤ 3
    go (inl z) = omega (arith, ap (λ c. c.domain) z)
    go (inr o) = o.domain.1

chain_domain_small : (p : Phone) → Accepted p → (d : ℕ) {k : ℕ} {l : List Certificate} → Chain p.trust d k l → d ≤ 3
chain_domain_small p ok d (ends r) = omega (arith, domain_small p ok r.certificate r.mem, r.domain)
chain_domain_small p ok d (goes_on s c) = omega (arith, domain_small p ok s.certificate s.mem, s.domain)

pub domain_exact : (p : Phone) → Accepted p → (k d : ℕ) → d ≢ 0 → (chain_domain p.trust k ≡ d) ↔ ((k ≢ 0) × ChainWithin most_links p.trust d k)
domain_exact p ok k d nz = (λ e. there e (chain_found p.trust k), λ c. back c.0 c.1)
  where
    there : chain_domain p.trust k ≡ d → (chain_domain p.trust k ≡ 0) ⊎ T (chains_to p.trust k (chain_domain p.trust k))
        → (k ≢ 0) × ChainWithin most_links p.trust d k
    there e (inl z) = absurd (nz (sym e ∙ z))
    there e (inr h) =
        let c = subst (λ d. T (chains_to p.trust k d)) e h in
        (chains_signed p.trust k d c, chains_chain p.trust k d c)

    back : k ≢ 0 → ChainWithin most_links p.trust d k → chain_domain p.trust k ≡ d
    back s c = chain_domain_is p.trust ok.trust.held.keys k d nz (chain_domain_small p ok d c.is_chain) (chain_chains p.trust k d s c)

-- ---- the count is the length of a shortest

pub none_links : (t : Trust) (k d : ℕ) → d ≡ 0 → links t k d ≡ 0
unfolding links
none_links t k d z = rw z

pub counted : (t : Trust) (k d : ℕ) → d ≢ 0 → T (chains_to t k d) → (links t k d ≢ 0) × (links t k d ≤ most_links) × Shortest t d k (links t k d)
counted t k d nz c =
    let s : links t k d ≢ 0 = (λ z. (links_none t k d (chains_signed t k d c) nz).0 z (chains_chain t k d c)) in
    (s, links_small t k d, links_shortest t k d nz s)
