-- Numbers in a list of bytes, most significant byte first, and a run of bytes put in place. Definitions only.
use Rattle.std.specs.Prelude.{ℕ, zero, suc, ◌+◌, ◌*◌, ◌/◌, ◌%◌, List, [], ◌∷◌, ◌++◌, length, get_or, take, drop, replicate}

-- the number that the w bytes from i on make
unfoldable pub be : ℕ → List ℕ → ℕ → ℕ
be zero l i = 0
be (suc zero) l i = get_or l i 0
be (suc (suc w)) l i = be (suc w) l i * 256 + get_or l (i + suc w) 0

abbrev pub be8 : List ℕ → ℕ → ℕ
be8 l i = be 1 l i

abbrev pub be16 : List ℕ → ℕ → ℕ
be16 l i = be 2 l i

abbrev pub be32 : List ℕ → ℕ → ℕ
be32 l i = be 4 l i

-- the w bytes that a number is written as
abbrev pub bytes : ℕ → ℕ → List ℕ
bytes zero v = []
bytes (suc zero) v = v ∷ []
bytes (suc (suc w)) v = bytes (suc w) (v / 256) ++ (v % 256 ∷ [])

-- l with vs in the place of as many of its bytes, from i on
unfoldable pub put : List ℕ → ℕ → List ℕ → List ℕ
put l i vs = take i l ++ vs ++ drop (i + length vs) l

abbrev pub zeros : ℕ → List ℕ
zeros n = replicate n 0
