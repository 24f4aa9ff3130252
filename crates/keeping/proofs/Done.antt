-- How an event is seen to be done, and the phone after it, done or refused. Assumes nothing.
use mathlib.Core.{Bool.{Bool, true, false, cond, not, ◌&&◌, ◌||◌}, Path.◌≡◌}
use borrow.Author.Tests.{ne_eqb}
use lib.{Dec.{T, eqb, leb}, ListN.get_or}
use Rattle.records.specs.{Phone.Phone, declared.Event.Event}
use Rattle.rules.specs.{Words.all_zero, Forms.{forms, no_form, malformed}, Actors.{may_act, acts_for}}
use Rattle.rules.specs.Codes.{id_unknown, actor_barred, time_back, card_unknown, card_wrong, card_away, id_taken, key_elsewhere, install_of_other}
use Rattle.rules.specs.Codes.{mark_of_other, no_such_root, another_valid, no_free_slot, never, not_permitted, cannot_replace, out_of_date, refusals, code_of}
use Rattle.rules.specs.Effects.{effect, settle, changed}
use Rattle.rules.specs.After.{after}
use Rattle.laws.proofs.Tests.{and_i, not_intro, neqb→ne, first_in}
use Rattle.keeping.proofs.{Unrefused.{Unrefused, unrefused}}

-- every test of the table under one name: with a line `unfolding the_tests` they compute at a known kind
unfoldable pub the_tests : Unit {0}
unfolding id_unknown actor_barred time_back card_unknown card_wrong card_away id_taken key_elsewhere
    install_of_other mark_of_other no_such_root another_valid no_free_slot never not_permitted cannot_replace out_of_date may_act acts_for all_zero
the_tests = tt

-- an event by one of the five actors to which no refusal applies is done
pub unrefused_done : (p : Phone) (e : Event) → T (leb e.actor 4) → Unrefused p e → T (eqb (code_of p e) 0)
unfolding code_of malformed
unrefused_done p e a t =
    let form = get_or forms e.kind no_form p e in
    let formed : T (not (malformed p e)) = not_intro (leb e.actor 4 && form) (and_i (leb e.actor 4) form a t.formed) in
    first_in (refusals p e) (search formed depth 21)

-- the phone after an event that is done or refused
pub after_cases : (P : Phone → Type 0) (e : Event) (p : Phone) → (Unrefused p e → P (settle (effect e p)))
    → (T (not (eqb (code_of p e) 0)) → P p) → P (after e p)
unfolding after changed
after_cases P e p done refused = go (eqb (code_of p e) 0) (λ h. done (unrefused p e h)) refused
  where
    go : (b : Bool) → (T b → P (settle (effect e p))) → (T (not b) → P p) → P (cond b (settle (effect e p)) p)
    go true d r = d tt
    go false d r = r tt

-- what is refused changes nothing
pub refused_still : (p : Phone) (e : Event) → T (not (eqb (code_of p e) 0)) → after e p ≡ p
unfolding after
refused_still p e n = rw (ne_eqb (code_of p e) 0 (neqb→ne (code_of p e) 0 n))

-- how a test of several parts is seen not to apply
pub nor_i : (a b : Bool) → T (not a) → T (not b) → T (not (a || b))
nor_i true b h k = h
nor_i false b h k = k

pub nand_i : (a b : Bool) → (T a → T (not b)) → T (not (a && b))
nand_i true b h = h tt
nand_i false b h = tt
