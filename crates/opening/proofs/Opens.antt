-- What opening answers: the first broken rule, those before it kept. Assumes nothing.
use Prim.Native.Nat.{ℕ}
use mathlib.Core.{Bool.{Bool, true, false, true≢false}, List.List, Path.{◌≡◌, refl, sym, ap, ◌∙◌}}
use Rattle.std.specs.Prelude.{Result, Ok, Err, is_err}
use Rattle.records.specs.{Phone.{Phone, decode}, Frame.{framed, Framed, header_fault}}
use Rattle.rules.specs.{declared.Site.Site, declared.Fault.Fault, Words.{all, first}, ImageRules.{row_fits, i2, i3, i4, i5, i6, i7, i8, broken, accepted}}
use Rattle.rules.specs.Faults.{lowest, certificate_site, executable_site, i3_site, at_rule, fault}
use Rattle.rules.specs.AcceptedImage.{AcceptedImage}
use Rattle.laws.proofs.{Promise.accepted_image}
use Rattle.opening.specs.Opened.{kept_or, opening, Opened}
use Rattle.opening.proofs.ByParts.{breaks}

module _ (l : List ℕ) where
  abbrev p : Phone
  p = decode l

  abbrev row_site : Site
  row_site = Site.Row (lowest (all row_fits) p.table)

  -- r passes on that a rule is broken: nothing is promised
  refused : {f : Fault} {r : Result Unit Fault} → r ≡ Err f → Err f ≡ opening l → Opened l r
  refused e q = record { answer = e ∙ q; promise = λ o. absurd (true≢false (ap is_err (sym e ∙ o))) }

  stops : {b : Bool} {f g : Fault} {a r : Result Unit Fault} → a ≡ kept_or b f → a ≡ Err g → r ≡ a → (b ≡ false → Err f ≡ opening l) → Opened l r
  stops e o q h = let k = breaks e o in refused (q ∙ k.1) (h k.0)

  pub breaks_i1 : framed l ≡ false → {o : ℕ} → o ≡ header_fault l → {r : Result Unit Fault} → r ≡ Err (at_rule 1 (Site.Header o)) → Opened l r
  unfolding opening accepted fault broken first
  breaks_i1 k1 e q = refused (q ∙ ap (λ o. Err (at_rule 1 (Site.Header o))) e) (rw k1)

  -- ---- the first broken rule: a is what was told of it, and r passes it on

  module _ (k1 : framed l ≡ true) {a r : Result Unit Fault} {g : Fault} (o : a ≡ Err g) (q : r ≡ a) where
    pub breaks_i2 : a ≡ kept_or (i2 p) (at_rule 2 (certificate_site i2 p)) → Opened l r
    unfolding opening accepted fault broken first
    breaks_i2 e = stops e o q (λ z. rw (k1, z))

    module _ (k2 : i2 p ≡ true) where
      pub breaks_i3 : a ≡ kept_or (i3 p) (at_rule 3 (i3_site p)) → Opened l r
      unfolding opening accepted fault broken first
      breaks_i3 e = stops e o q (λ z. rw (k1, k2, z))

      module _ (k3 : i3 p ≡ true) where
        pub breaks_i4 : a ≡ kept_or (i4 p) (at_rule 4 (certificate_site i4 p)) → Opened l r
        unfolding opening accepted fault broken first
        breaks_i4 e = stops e o q (λ z. rw (k1, k2, k3, z))

        module _ (k4 : i4 p ≡ true) where
          pub breaks_i5 : a ≡ kept_or (i5 p) (at_rule 5 (certificate_site i5 p)) → Opened l r
          unfolding opening accepted fault broken first
          breaks_i5 e = stops e o q (λ z. rw (k1, k2, k3, k4, z))

          module _ (k5 : i5 p ≡ true) where
            pub breaks_i6 : a ≡ kept_or (i6 p) (at_rule 6 row_site) → Opened l r
            unfolding opening accepted fault broken first
            breaks_i6 e = stops e o q (λ z. rw (k1, k2, k3, k4, k5, z))

            pub breaks_i7 : i6 p ≡ true → a ≡ kept_or (i7 p) (at_rule 7 (executable_site i7 p)) → Opened l r
            unfolding opening accepted fault broken first
            breaks_i7 k6 e = stops e o q (λ z. rw (k1, k2, k3, k4, k5, k6, z))

  -- I8 is the last
  module _ (k1 : framed l ≡ true) (k2 : i2 p ≡ true) (k3 : i3 p ≡ true) (k4 : i4 p ≡ true) (k5 : i5 p ≡ true) (k6 : i6 p ≡ true) (k7 : i7 p ≡ true) where
    pub opens : Framed l → {r : Result Unit Fault} → r ≡ kept_or (i8 p) (at_rule 8 (executable_site i8 p)) → Opened l r
    unfolding opening accepted fault broken first
    opens f {r} e = go (i8 p) refl e
      where
        go : (b : Bool) → i8 p ≡ b → r ≡ kept_or b (at_rule 8 (executable_site i8 p)) → Opened l r
        go true k8 e =
            let kept : broken l ≡ 0 = rw (k1, k2, k3, k4, k5, k6, k7, k8) in
            record { answer = e ∙ rw kept; promise = λ q. accepted_image l f (rw kept) }
        go false k8 e = refused e (rw (k1, k2, k3, k4, k5, k6, k7, k8))

-- ---- what callers ask of it: r is what opening l gave

module _ {l : List ℕ} {r : Result Unit Fault} (o : Opened l r) where
  pub accepted_where : {b : Bool} → b ≡ is_err r → b ≡ false → AcceptedImage l
  accepted_where e z = o.promise (each r (sym e ∙ z))
    where
      each : (r : Result Unit Fault) → is_err r ≡ false → r ≡ Ok tt
      each (Ok x) z = refl
      each (Err f) z = absurd (true≢false z)

  pub refused_where : {b : Bool} → b ≡ is_err r → b ≡ true → accepted l ≡ false
  unfolding opening
  refused_where e z = each (accepted l) (ap is_err (sym o.answer) ∙ sym e ∙ z)
    where
      each : (b : Bool) → is_err (kept_or b (fault l)) ≡ true → b ≡ false
      each true z = sym z
      each false z = refl
