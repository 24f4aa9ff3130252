-- Every event keeps the image rules I2 to I5 of the certificates and the card. Assumes nothing.
use Prim.Native.Nat.{ℕ, ◌≤◌}
use mathlib.Core.{Bool.{Bool, true, false, cond, not, ◌&&◌, ◌||◌}, List.{map, Memᴰ}, Logic.◌≢◌, Path.{◌≡◌, refl, subst, sym, ◌∙◌}}
use native.Mathlib.Omega.{arith}
use lib.Dec.{T, eqb, not_T, eqb→eq, nltb→le}
use Rattle.records.specs.{Phone.Phone, declared.Certificate.Certificate, declared.Event.Event}
use Rattle.rules.specs.{Words.{any, change}, ImageRules.{known_place, operator_of, operator_root}, Forms.{with_kind, new_certificate, install_form}}
use Rattle.rules.specs.Codes.{has_id, certificate_named, certificate_known, subject, recovery_named, rival, in_another, id_unknown, time_back, card_unknown}
use Rattle.rules.specs.Codes.{id_taken, key_elsewhere, install_of_other, mark_of_other, no_such_root, another_valid, may_replace, cannot_replace}
use Rattle.rules.specs.Effects.{tick, card_in, card_out, power_up, install_certificate, delete_certificate, after_marking, mark_valid, mark_invalid, message}
use Rattle.rules.specs.Effects.{replaced, replace, effect}
use Rattle.laws.proofs.{Tests.{tests, eq→eqb, ne→neqb, nand, not_elim}, Lists.none_out, Fits.occupied_out}
use Rattle.laws.proofs.{Roots.{valid_earlier, valid_kind, valid_domain, valid_mark}, Accepted.{Valid, Kept}}
use Rattle.keeping.proofs.{ByKind.{the_effects, by_kind}, Unrefused.{Unrefused, owned_formed, replace_formed, replaceable}}
use Rattle.keeping.proofs.Naming.{Found, certificate_named_is, certificate_named_alone}
use Rattle.keeping.proofs.CertificateChanges.{New, holding, keep_clock, keep_card_in, keep_card_out, keep_install, keep_delete, keep_invalid}
use Rattle.keeping.proofs.CertificateChanges.{keep_message}
use Rattle.keeping.proofs.{MarkValid.{Clear, keep_valid}, RootReplaced.{Successor, keep_replaced}, Done.{nor_i, nand_i}}

-- a new certificate comes unmarked, but for a third party root
new_unmarked : (m t d : ℕ) (e : Event) → d ≤ 2 → Valid d t (new_certificate m e) → ⊥
unfolding new_certificate
new_unmarked m t d e l v =
    let k : e.third ≡ 0 = valid_kind d t (new_certificate m e) v in
    let n : e.fourth ≢ 3 = (λ z. let y : e.fourth ≡ d = valid_domain d t (new_certificate m e) v in omega arith) in
    go (eqb e.third 1 || (eqb e.third 0 && eqb e.fourth 3))
    (nor_i (eqb e.third 1) (eqb e.third 0 && eqb e.fourth 3) (ne→neqb e.third 1 (λ z. omega arith))
    (nand_i (eqb e.third 0) (eqb e.fourth 3) (λ h. ne→neqb e.fourth 3 n)))
    (valid_mark d t (new_certificate m e) v)
  where
    go : (b : Bool) → T (not b) → ◌≡◌ {A = ℕ} (cond b 1 0) 1 → ⊥
    go true h z = h
    go false h z = omega arith

-- a refusal that two numbers differ did not apply
unless_is : (a : Bool) (x y : ℕ) → T (not (a && not (eqb x y))) → T a → x ≡ y
unless_is a x y h k = eqb→eq x y (not_elim (eqb x y) (nand a (not (eqb x y)) h k))

-- ---- each kind

module _ (p : Phone) (ok : Kept p.cards p.trust) where
  kept_clock : (e : Event) → p.trust.seen.clock ≤ e.key → Kept p.cards (tick e p).trust
  unfolding tick
  kept_clock e h = keep_clock p.cards p.trust e.key (λ d c. valid_earlier d p.trust.seen.clock e.key c h) ok

  kept_card_in : (e : Event) → T (known_place p.cards e.second) → Kept p.cards (card_in e p).trust
  unfolding card_in
  kept_card_in e k = keep_card_in p e.second k ok

  kept_card_out : (e : Event) → Kept p.cards (card_out e p).trust
  unfolding card_out
  kept_card_out e = keep_card_out p.cards p.trust ok

  kept_power_up : (e : Event) → T (known_place p.cards e.second) → Kept p.cards (power_up e p).trust
  unfolding power_up
  kept_power_up e k = go (eqb e.second 0)
    where
      go : (b : Bool) → Kept p.cards (cond b (card_out e p) (card_in e p)).trust
      go true = kept_card_out e
      go false = kept_card_in e k

  -- what code 10 leaves: whoever has the key is of the domain
  of_one_domain : (key domain : ℕ) → T (not (any (in_another key domain) p.trust.certificates))
      → (x : Certificate) → Memᴰ x p.trust.certificates → x.key ≡ key → x.domain ≡ domain
  of_one_domain key domain none x m z =
      unless_is (eqb x.key key) x.domain domain
      (not_T (in_another key domain x) (none_out (in_another key domain) p.trust.certificates none x m)) (eq→eqb x.key key z)

  new_fits : (e : Event) → Unrefused p (with_kind 5 e) → New p.cards p.trust (new_certificate p.mode (with_kind 5 e))
  unfolding install_form subject card_unknown id_taken certificate_known key_elsewhere install_of_other new_certificate
  new_fits e t =
      record {
        fits = occupied_out (new_certificate p.mode (with_kind 5 e)) t.formed;
        place = not_elim (known_place p.cards e.second) t.in_table;
        fresh = λ x m z. none_out (has_id e.id) p.trust.certificates (let h = t.fresh in search tests) x m (eq→eqb x.id e.id z);
        own_key = λ x m z. of_one_domain e.key e.fourth t.own_key x m z;
        owner = λ a d z.
            unless_is (operator_root (new_certificate p.mode (with_kind 5 e)) && not (eqb e.second 0)) e.owner (operator_of p.cards e.second)
            t.install_own (search tests);
        unmarked = λ d l v. new_unmarked p.mode p.trust.seen.clock d (with_kind 5 e) l v;
      }

  kept_install : (e : Event) → Unrefused p (with_kind 5 e) → Kept p.cards (install_certificate (with_kind 5 e) p).trust
  unfolding install_certificate
  kept_install e t = keep_install p.cards p.trust (new_certificate p.mode (with_kind 5 e)) (new_fits e t) ok

  kept_delete : (e : Event) → e.id ≢ 0 → Kept p.cards (delete_certificate e p).trust
  unfolding delete_certificate
  kept_delete e nz = keep_delete p.cards p.trust e.id nz ok

  -- r is an operator root on the phone while a card of another operator is present
  of_other : Certificate → Bool
  of_other r =
      operator_root r && eqb r.place 0 && not (eqb p.trust.seen.card 0)
      && not (eqb r.owner (operator_of p.cards p.trust.seen.card))

  -- what codes 11, 12 and 13 leave of a certificate r that is to be valid
  clear_way : (n : ℕ) (r : Certificate) → n ≢ 0 → r ≡ certificate_named p n → Found p.trust.certificates n r → r.kind ≡ 0
      → T (not (of_other r)) → T (not (any (rival p.trust.seen r) p.trust.certificates)) → Clear p.cards p.trust r
  unfolding of_other
  clear_way n r nz q g root own alone =
      record {
        id = λ z. nz (sym g.id ∙ z);
        root = root;
        alone = λ c m i. q ∙ certificate_named_alone p n c ok.held nz (record { mem = m; id = i ∙ g.id });
        no_rival = none_out (rival p.trust.seen r) p.trust.certificates alone;
        owner = λ a d z n.
            unless_is (operator_root r && eqb r.place 0 && not (eqb p.trust.seen.card 0)) r.owner (operator_of p.cards p.trust.seen.card)
            own (search tests);
      }

  kept_valid : (e : Event) → e.id ≢ 0 → Unrefused p (with_kind 7 e) → Kept p.cards (mark_valid (with_kind 7 e) p).trust
  unfolding mark_valid id_unknown subject no_such_root another_valid mark_of_other of_other
  kept_valid e nz t =
      let r = certificate_named p e.id in
      let h = t.known in
      let k = t.such_root in
      let g = certificate_named_is p e.id (search tests) in
      subst (λ n. Kept p.cards (holding (map (after_marking n r) p.trust.certificates) p.trust)) g.id
      (keep_valid p.cards p.trust r (clear_way e.id r nz refl g (search tests) t.mark_own t.none_valid) ok)

  kept_invalid : (e : Event) → e.id ≢ 0 → Unrefused p (with_kind 8 e) → Kept p.cards (mark_invalid (with_kind 8 e) p).trust
  unfolding mark_invalid subject no_such_root
  kept_invalid e nz t = keep_invalid p.cards p.trust e.id nz root ok
    where
      root : (c : Certificate) → Memᴰ c p.trust.certificates → c.id ≡ e.id → c.kind ≡ 0
      root c m i =
          let k = t.such_root in
          subst (λ x. x.kind ≡ 0) (certificate_named_alone p e.id c ok.held nz (record { mem = m; id = i })) (search tests)

  -- 16: what code 0 says of the root that is replaced
  succeeds : (e : Event) → Unrefused p (with_kind 16 e) → Successor p.cards p.trust (certificate_named p e.id) e
  unfolding subject recovery_named id_unknown key_elsewhere no_such_root another_valid mark_of_other of_other cannot_replace
  succeeds e t =
      let r = certificate_named p e.id in
      let f = replace_formed p (with_kind 16 e) t.formed in
      let h = t.known in
      let k = t.such_root in
      let g = certificate_named_is p e.id (search tests) in
      let may = may_replace (with_kind 16 e) r (certificate_named p e.second) in
      let w = replaceable (with_kind 16 e) r (certificate_named p e.second) (not_elim may t.replaces) in
      record {
        clear = clear_way e.id r f.0 refl g (search tests) t.mark_own t.none_valid;
        mem = g.mem;
        phone = w.root_on_phone;
        key = f.1;
        owner = w.event_owner;
        own_key = of_one_domain e.key r.domain t.own_key;
      }

  kept_replace : (e : Event) → Unrefused p (with_kind 16 e) → Kept p.cards (replace (with_kind 16 e) p).trust
  unfolding replace id_unknown
  kept_replace e t =
      let h = t.known in
      let g = certificate_named_is p e.id (search tests) in
      subst (λ n. Kept p.cards (holding (change (has_id n) (replaced e) p.trust.certificates) p.trust)) g.id
      (keep_replaced p.cards p.trust (certificate_named p e.id) e (succeeds e t) ok)

  kept_message : (e : Event) → Kept p.cards (message e p).trust
  unfolding message
  kept_message e = keep_message p.cards p.trust e ok

  pub kept_effect : (e : Event) → Unrefused p e → Kept p.cards (effect e p).trust
  unfolding the_effects card_unknown time_back
  kept_effect e t =
      by_kind (λ k. Unrefused p (with_kind k e) → Kept p.cards (effect (with_kind k e) p).trust)
      (record {
        clock = λ t. kept_clock (with_kind 1 e) (nltb→le e.key p.trust.seen.clock t.forward);
        card_in = λ t. kept_card_in (with_kind 2 e) (not_elim (known_place p.cards e.second) t.in_table);
        card_out = λ t. kept_card_out (with_kind 3 e);
        power_up = λ t. kept_power_up (with_kind 4 e) (not_elim (known_place p.cards e.second) t.in_table);
        install_certificate = λ t. kept_install e t;
        delete_certificate = λ t. kept_delete (with_kind 6 e) (owned_formed p (with_kind 6 e) t.formed);
        mark_valid = λ t. kept_valid e (owned_formed p (with_kind 7 e) t.formed) t;
        mark_invalid = λ t. kept_invalid e (owned_formed p (with_kind 8 e) t.formed) t;
        message = λ t. kept_message (with_kind 9 e);
        install_executable = λ t. ok;
        delete_executable = λ t. ok;
        verify = λ t. ok;
        give = λ t. ok;
        withdraw = λ t. ok;
        request = λ t. ok;
        replace = λ t. kept_replace e t;
      })
      e.kind p e t.formed t
