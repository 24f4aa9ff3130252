-- Every event keeps the image rule I7 of the executables, and settling makes I8 hold. Assumes nothing.
use Prim.Native.Nat.{ℕ, ◌≤◌, ◌<◌}
use mathlib.Core.List.Memᴰ
use mathlib.Core.{Bool.{Bool, true, false, cond, not}, List.{List, map, Memᴰ}, Logic.{◌≢◌, ◌⊎◌, inl, inr}}
use mathlib.Core.Path.{◌≡◌, refl, subst, sym, ap, ◌∙◌}
use native.Mathlib.Omega.{arith}
use lib.{Dec.{T, eqb, eqb→eq}, ListN.length, Pow.pow_pos}
use Rattle.bits.specs.Bits.{put_digit}
use Rattle.bits.proofs.BitLaws.{put_digit_small}
use Rattle.records.specs.{Phone.{Trust, Phone, no_executable, in_domain, permitted}, declared.Executable.Executable, declared.Event.Event}
use Rattle.rules.specs.{Words.{at, change, fill, distinct}, Chains.{chains_to, chain_of}, ImageRules.{free_executable, chained_fits}}
use Rattle.rules.specs.{Forms.{with_kind, executable_form}, Codes.{is_executable, executable_known, id_taken}}
use Rattle.rules.specs.Effects.{card_in, card_out, power_up, new_executable, install_executable, effect, settled, settle}
use Rattle.laws.proofs.{Tests.{tests, eq→eqb, neqb→ne, nor_l, nor_r}, Lists.{none_out, fill_out}, Distinct.{distinct_map, distinct_fill}, Changes.at_cases}
use Rattle.laws.proofs.{Domain.chain_small, Accepts.chained_out, Accepted.Stored}
use Rattle.keeping.proofs.{ByKind.{the_effects, by_kind}, Unrefused.{Unrefused, id_formed, action_formed}}

-- I7, for n actions
pub record Executables (n : ℕ) (l : List Executable) : Type 0 where
  pub slots : (x : Executable) → Memᴰ x l → (x ≡ no_executable) ⊎ Stored n x
  pub ids : T (distinct (map (λ x. x.id) l))

-- ---- one executable changed

stored_domain : (n d : ℕ) (x : Executable) → d ≤ 3 → Stored n x → Stored n (in_domain d x)
stored_domain n d x l s = record { id = s.id; domain = l; blank = s.blank; permissions = s.permissions }

stored_permission : (n a b : ℕ) (x : Executable) → a < n → b < 2 → Stored n x → Stored n (permitted (put_digit x.permissions a b) x)
stored_permission n a b x l h s =
    record { id = s.id; domain = s.domain; blank = s.blank; permissions = put_digit_small x.permissions a b n s.permissions l h }

-- ---- the slots

executables_map : (n : ℕ) (l : List Executable) (f : Executable → Executable) → ((x : Executable) → (f x).id ≢ 0 → (f x).id ≡ x.id)
    → ((x : Executable) → (x ≡ no_executable) ⊎ Stored n x → (f x ≡ no_executable) ⊎ Stored n (f x))
    → Executables n l → Executables n (map f l)
executables_map n l f same fits ok = record { slots = slots; ids = distinct_map (λ x. x.id) f same l ok.ids }
  where
    slots : (x : Executable) → Memᴰ x (map f l) → (x ≡ no_executable) ⊎ Stored n x
    slots x m =
        let o = Memᴰ.of_map f l m in
        subst (λ y. (y ≡ no_executable) ⊎ Stored n y) o.2 (fits o.0 (ok.slots o.0 o.1))

executables_change : (n : ℕ) (l : List Executable) (i : ℕ) (g : Executable → Executable) → i ≢ 0 → ((x : Executable) → (g x).id ≢ 0 → (g x).id ≡ x.id)
    → ((x : Executable) → Stored n x → (g x ≡ no_executable) ⊎ Stored n (g x))
    → Executables n l → Executables n (change (is_executable i) g l)
executables_change n l i g nz same fits ok =
    executables_map n l (at (is_executable i) g)
    (λ x. at_cases (λ lo hi. lo.id ≢ 0 → lo.id ≡ hi.id) (is_executable i) g x (λ h. same x) (λ h z. refl))
    (λ x. at_cases (λ lo hi. (hi ≡ no_executable) ⊎ Stored n hi → (lo ≡ no_executable) ⊎ Stored n lo) (is_executable i) g x
    (λ h. hit x (eqb→eq x.id i h)) (λ h o. o))
    ok
  where
    hit : (x : Executable) → x.id ≡ i → (x ≡ no_executable) ⊎ Stored n x → (g x ≡ no_executable) ⊎ Stored n (g x)
    hit x e (inl z) = absurd (nz (sym e ∙ ap (λ x. x.id) z))
    hit x e (inr o) = fits x o

-- ---- the events

executables_install : (n : ℕ) (l : List Executable) (e : Event) → e.id ≢ 0 → Executables n l → ((x : Executable) → Memᴰ x l → x.id ≢ e.id)
    → Executables n (fill free_executable (new_executable e) l)
executables_install n l e nz ok fresh =
    record {
      slots = λ x m. slots x (fill_out free_executable (new_executable e) l x m);
      ids = distinct_fill (λ x. x.id) free_executable (new_executable e) l fresh ok.ids;
    }
  where
    stored : Stored n (new_executable e)
    stored = record { id = nz; domain = omega arith; blank = refl; permissions = pow_pos n }

    slots : (x : Executable) → (x ≡ new_executable e) ⊎ Memᴰ x l → (x ≡ no_executable) ⊎ Stored n x
    slots x (inl z) = inr (subst (Stored n) (sym z) stored)
    slots x (inr m) = ok.slots x m

module _ (n : ℕ) (l : List Executable) (i : ℕ) (nz : i ≢ 0) (ok : Executables n l) where
  executables_delete : Executables n (change (is_executable i) (λ x. no_executable) l)
  executables_delete = executables_change n l i (λ x. no_executable) nz (λ x z. absurd (z refl)) (λ x s. inl refl) ok

  executables_verify : (t : Trust) → Executables n (change (is_executable i) (λ x. in_domain (chain_of t x.signing).domain x) l)
  unfolding chain_of
  executables_verify t =
      executables_change n l i (λ x. in_domain (chain_of t x.signing).domain x) nz (λ x z. refl)
      (λ x s. inr (stored_domain n (chain_of t x.signing).domain x (chain_small t x.signing) s)) ok

  executables_permission : (a b : ℕ) → a < n → b < 2 → Executables n (change (is_executable i) (λ x. permitted (put_digit x.permissions a b) x) l)
  executables_permission a b h s =
      executables_change n l i (λ x. permitted (put_digit x.permissions a b) x) nz (λ x z. refl) (λ x o. inr (stored_permission n a b x h s o)) ok

-- ---- settling

-- an executable stays as it is, with its chain, or loses the domain that it does not chain to
pub settled_cases : (C : Executable → Type 0) (t : Trust) (x : Executable) → ((x.domain ≢ 0 → T (chains_to t x.signing x.domain)) → C x)
    → (x.domain ≢ 0 → T (not (chains_to t x.signing x.domain)) → C (in_domain 0 x)) → C (settled t x)
unfolding settled
settled_cases C t x stay lose =
    let own = chains_to t x.signing x.domain in
    go (chained_fits t x) (λ h. h)
    (λ h. lose (neqb→ne x.domain 0 (nor_l (eqb x.domain 0) own h)) (nor_r (eqb x.domain 0) own h))
  where
    go : (b : Bool) → (T b → T (chained_fits t x)) → (T (not b) → C (in_domain 0 x)) → C (cond b x (in_domain 0 x))
    go true h k = stay (chained_out t x (h tt))
    go false h k = k tt

pub executables_settle : (n : ℕ) (p : Phone) → Executables n p.executables → Executables n (settle p).executables
unfolding settle
executables_settle n p ok = executables_map n p.executables (settled p.trust) same fits ok
  where
    same : (x : Executable) → (settled p.trust x).id ≢ 0 → (settled p.trust x).id ≡ x.id
    same x = settled_cases (λ y. y.id ≢ 0 → y.id ≡ x.id) p.trust x (λ h z. refl) (λ d h z. refl)

    lost : (x : Executable) → (x ≡ no_executable) ⊎ Stored n x → (in_domain 0 x ≡ no_executable) ⊎ Stored n (in_domain 0 x)
    lost x (inl z) = inl (ap (in_domain 0) z)
    lost x (inr s) = inr (stored_domain n 0 x (omega arith) s)

    fits : (x : Executable) → (x ≡ no_executable) ⊎ Stored n x → (settled p.trust x ≡ no_executable) ⊎ Stored n (settled p.trust x)
    fits x o = settled_cases (λ y. (y ≡ no_executable) ⊎ Stored n y) p.trust x (λ h. o) (λ d h. lost x o)

pub settle_chained : (p : Phone) (x : Executable) → Memᴰ x (settle p).executables → x.domain ≢ 0 → T (chains_to p.trust x.signing x.domain)
unfolding settle
settle_chained p x m =
    let o = Memᴰ.of_map (settled p.trust) p.executables m in
    subst (λ y. y.domain ≢ 0 → T (chains_to p.trust y.signing y.domain)) o.2
    (settled_cases (λ y. y.domain ≢ 0 → T (chains_to p.trust y.signing y.domain)) p.trust o.0 (λ h. h) (λ d h z. absurd (z refl)))

-- ---- every kind

module _ (p : Phone) (ok : Executables (length p.table) p.executables) where
  installed : (e : Event) → Unrefused p (with_kind 10 e) → Executables (length p.table) (install_executable (with_kind 10 e) p).executables
  unfolding install_executable executable_form id_taken executable_known
  installed e t =
      let f = t.formed in
      let h = t.fresh in
      executables_install (length p.table) p.executables (with_kind 10 e) (search tests) ok
      (λ x m z. none_out (is_executable e.id) p.executables (search tests) x m (eq→eqb x.id e.id z))

  pub executables_effect : (e : Event) → Unrefused p e → Executables (length p.table) (effect e p).executables
  unfolding the_effects power_up
  executables_effect e t =
      by_kind (λ k. Unrefused p (with_kind k e) → Executables (length p.table) (effect (with_kind k e) p).executables)
      (record {
        clock = λ t. ok;
        card_in = λ t. ok;
        card_out = λ t. ok;
        power_up = λ t. same (eqb e.second 0);
        install_certificate = λ t. ok;
        delete_certificate = λ t. ok;
        mark_valid = λ t. ok;
        mark_invalid = λ t. ok;
        message = λ t. ok;
        install_executable = λ t. installed e t;
        delete_executable = λ t. executables_delete (length p.table) p.executables e.id (id_formed p (with_kind 11 e) t.formed) ok;
        verify = λ t. executables_verify (length p.table) p.executables e.id (id_formed p (with_kind 12 e) t.formed) ok p.trust;
        give = λ t.
            let f = action_formed p (with_kind 13 e) t.formed in
            executables_permission (length p.table) p.executables e.id f.0 ok e.second 1 f.1 (omega arith);
        withdraw = λ t.
            let f = action_formed p (with_kind 14 e) t.formed in
            executables_permission (length p.table) p.executables e.id f.0 ok e.second 0 f.1 (omega arith);
        request = λ t. ok;
        replace = λ t. ok;
      })
      e.kind p e t.formed t
    where
      same : (b : Bool) → Executables (length p.table) (cond b (card_out (with_kind 4 e) p) (card_in (with_kind 4 e) p)).executables
      same true = ok
      same false = ok
