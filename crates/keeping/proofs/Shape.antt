-- What no event changes: the cards, the table, the number of slots, and that the standing mode is one. Assumes nothing.
use Prim.Native.Nat.{ℕ, zero, suc, ◌≤◌}
use mathlib.Core.{Bool.{Bool, true, false, cond}, List.{List, [], ◌∷◌}, Path.{◌≡◌, refl, ◌∙◌}}
use lib.{Dec.{T, eqb, leb→le}, ListN.{length, get_or, length-map}}
use Rattle.records.specs.{Phone.{Trust, Phone, with_trust, with_executables}, Frame.Sized, declared.Executable.Executable, declared.Event.Event}
use Rattle.rules.specs.{Forms.{with_kind, message_form}, Codes.code_of}
use Rattle.rules.specs.Effects.{card_rule, tick, card_in, card_out, power_up, install_certificate, delete_certificate, mark_valid, mark_invalid, message}
use Rattle.rules.specs.Effects.{install_executable, delete_executable, verify, permit, request, replace, effects, effect, settle, changed}
use Rattle.laws.proofs.{Tests.tests, Changes.length_fill}
use Rattle.keeping.proofs.{ByKind.{the_effects, by_kind}, Unrefused.{Unrefused, unrefused}}

pub record Shape (q p : Phone) : Type 0 where
  pub cards : q.cards ≡ p.cards
  pub table : q.table ≡ p.table
  pub certificates : length q.trust.certificates ≡ length p.trust.certificates
  pub executables : length q.executables ≡ length p.executables

shape_trust : (p : Phone) (t : Trust) → length t.certificates ≡ length p.trust.certificates → Shape (with_trust t p) p
shape_trust p t h = record { cards = refl; table = refl; certificates = h; executables = refl }

shape_executables : (p : Phone) (l : List Executable) → length l ≡ length p.executables → Shape (with_executables l p) p
shape_executables p l h = record { cards = refl; table = refl; certificates = refl; executables = h }

-- ---- an effect keeps the shape, whichever of the list it is

abbrev Shapely : (Event → Phone → Phone) → Type 0
Shapely f = (e : Event) (p : Phone) → Shape (f e p) p

abbrev AllShapely : List (Event → Phone → Phone) → Type 0
AllShapely [] = Unit {0}
AllShapely (f ∷ l) = Shapely f × AllShapely l

shapely_at : (l : List (Event → Phone → Phone)) (d : Event → Phone → Phone) → AllShapely l → Shapely d → (k : ℕ) → Shapely (get_or l k d)
shapely_at [] d h s k = s
shapely_at (f ∷ l) d h s zero = h.0
shapely_at (f ∷ l) d h s (suc k) = shapely_at l d h.1 s k

shape_tick : Shapely tick
unfolding tick
shape_tick e p = shape_trust p _ refl

shape_card_in : Shapely card_in
unfolding card_in card_rule
shape_card_in e p = shape_trust p _ (length-map p.trust.certificates _)

shape_card_out : Shapely card_out
unfolding card_out
shape_card_out e p = shape_trust p _ refl

shape_power_up : Shapely power_up
unfolding power_up
shape_power_up e p = go (eqb e.second 0)
  where
    go : (b : Bool) → Shape (cond b (card_out e p) (card_in e p)) p
    go true = shape_card_out e p
    go false = shape_card_in e p

shape_install_certificate : Shapely install_certificate
unfolding install_certificate
shape_install_certificate e p = shape_trust p _ (length_fill _ _ p.trust.certificates)

shape_delete_certificate : Shapely delete_certificate
unfolding delete_certificate
shape_delete_certificate e p = shape_trust p _ (length-map p.trust.certificates _)

shape_mark_valid : Shapely mark_valid
unfolding mark_valid
shape_mark_valid e p = shape_trust p _ (length-map p.trust.certificates _)

shape_mark_invalid : Shapely mark_invalid
unfolding mark_invalid
shape_mark_invalid e p = shape_trust p _ (length-map p.trust.certificates _)

shape_message : Shapely message
unfolding message
shape_message e p =
    record { cards = refl; table = refl; certificates = length-map p.trust.certificates _; executables = refl }

shape_install_executable : Shapely install_executable
unfolding install_executable
shape_install_executable e p = shape_executables p _ (length_fill _ _ p.executables)

shape_delete_executable : Shapely delete_executable
unfolding delete_executable
shape_delete_executable e p = shape_executables p _ (length-map p.executables _)

shape_verify : Shapely verify
unfolding verify
shape_verify e p = shape_executables p _ (length-map p.executables _)

shape_permit : (write : ℕ → ℕ → ℕ) → Shapely (permit write)
unfolding permit
shape_permit write e p = shape_executables p _ (length-map p.executables _)

shape_request : Shapely request
unfolding request
shape_request e p = record { cards = refl; table = refl; certificates = refl; executables = refl }

shape_replace : Shapely replace
unfolding replace
shape_replace e p = shape_trust p _ (length-map p.trust.certificates _)

all_shapely : AllShapely effects
all_shapely =
    search (
      shape_request,
      shape_tick,
      shape_card_in,
      shape_card_out,
      shape_power_up,
      shape_install_certificate,
      shape_delete_certificate,
      shape_mark_valid,
      shape_mark_invalid,
      shape_message,
      shape_install_executable,
      shape_delete_executable,
      shape_verify,
      shape_permit,
      shape_replace,
    )
    depth 21

-- ---- and so does an event

pub shape_effect : (e : Event) (p : Phone) → Shape (effect e p) p
unfolding effect
shape_effect e p = shapely_at effects request all_shapely shape_request e.kind e p

pub shape_changed : (e : Event) (p : Phone) → Shape (changed e p) p
unfolding changed settle
shape_changed e p =
    let s = shape_effect e p in
    record {
      cards = s.cards;
      table = s.table;
      certificates = s.certificates;
      executables = length-map (effect e p).executables _ ∙ s.executables;
    }

pub sized_shape : {q p : Phone} → Shape q p → Sized p → Sized q
sized_shape s z =
    record {
      certificates = rw s.certificates z.certificates;
      cards = rw s.cards z.cards;
      executables = rw s.executables z.executables;
      some_action = rw s.table z.some_action;
      actions = rw s.table z.actions;
    }

-- ---- the standing mode

mode_power_up : (e : Event) (p : Phone) → (power_up e p).mode ≡ p.mode
unfolding power_up card_in card_out card_rule
mode_power_up e p = go (eqb e.second 0)
  where
    go : (b : Bool) → (cond b (card_out e p) (card_in e p)).mode ≡ p.mode
    go true = refl
    go false = refl

message_mode : (p : Phone) (e : Event) → T (message_form p e) → e.third ≤ 2
unfolding message_form
message_mode p e h = leb→le e.third 2 (search tests depth 7)

pub mode_changed : (e : Event) (p : Phone) → p.mode ≤ 2 → T (eqb (code_of p e) 0) → (changed e p).mode ≤ 2
unfolding changed settle the_effects
mode_changed e p h c =
    by_kind (λ k. Unrefused p (with_kind k e) → (effect (with_kind k e) p).mode ≤ 2)
    (record {
      clock = λ t. h;
      card_in = λ t. h;
      card_out = λ t. h;
      power_up = λ t. rw (mode_power_up (with_kind 4 e) p) h;
      install_certificate = λ t. h;
      delete_certificate = λ t. h;
      mark_valid = λ t. h;
      mark_invalid = λ t. h;
      message = λ t. message_mode p (with_kind 9 e) t.formed;
      install_executable = λ t. h;
      delete_executable = λ t. h;
      verify = λ t. h;
      give = λ t. h;
      withdraw = λ t. h;
      request = λ t. h;
      replace = λ t. h;
    })
    e.kind p e (unrefused p e c).formed (unrefused p e c)
