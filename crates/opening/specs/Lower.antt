-- A certificate beside those in the slots below it. Definitions only.
use Rattle.std.specs.Prelude.{ℕ, Bool, take}
use Rattle.records.specs.Phone.{Phone, certificate_at}
use Rattle.rules.specs.{Words.all, Parts.{i4_with, i5_pair, i5_with}}

-- I4 of certificate i
abbrev pub i4_at : Phone → ℕ → Bool
i4_at p i = i4_with p.cards (take i p.trust.certificates) (certificate_at p i)

-- I5 of certificate i, and of it and each below it as two
abbrev pub i5_at : Phone → ℕ → Bool
i5_at p i = i5_with p.cards p.trust.seen (take i p.trust.certificates) (certificate_at p i)

abbrev pub i5_pairs : Phone → ℕ → Bool
i5_pairs p i = all (i5_pair p.trust.seen (certificate_at p i)) (take i p.trust.certificates)
