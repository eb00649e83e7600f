-- Reading a front of a line, of a tape or of a shape text: what stands there, and what stands after it.
use Rattle.std.specs.Prelude.{ℕ, zero, suc, ℤ, pos, negsuc, ◌+◌, ◌-◌, ◌*◌, ◌^◌, List, [], ◌∷◌, ◌==◌, ◌&&◌, cond, nat_lt, nat_le, codes, Option, None, Some, option_map, option_and_then}
use Rattle.std.specs.Fmt.{decimal}
use Rattle.std.specs.Str.{bytes_eq}
use Rattle.std.specs.Str.Parse.{digits_value}

-- what stands after a front, where the line begins with it
abbrev pub strip : List ℕ → List ℕ → Option (List ℕ)
strip [] text = Some text
strip (p ∷ ps) [] = None
strip (p ∷ ps) (b ∷ bs) = cond (b == p) (strip ps bs) None

-- the bytes before the first space, and those from it on
unfoldable pub until_space : List ℕ → List ℕ × List ℕ
until_space [] = ([], [])
until_space (b ∷ bs) = cond (b == 32) ([], b ∷ bs) (b ∷ (until_space bs).0, (until_space bs).1)

-- the number below 2 to the power of `bits` that is spelled so
unfoldable pub number_of : ℕ → List ℕ → Option ℕ
number_of bits text = let n = digits_value 10 text in cond (nat_lt n (2 ^ bits) && bytes_eq (decimal n) text) (Some n) None

-- a number up to the end of the word
unfoldable pub number_at : ℕ → List ℕ → Option (ℕ × List ℕ)
number_at bits text = option_map (λ n. (n, (until_space text).1)) (number_of bits (until_space text).0)

-- the number below 0 of this size, where it fits
abbrev pub negative : ℕ → ℕ → Option ℤ
negative half zero = None
negative half (suc m) = cond (nat_lt m (2 ^ half)) (Some (negsuc m)) None

-- the signed number of this size, where it fits
abbrev pub positive : ℕ → ℕ → Option ℤ
positive half n = cond (nat_lt n (2 ^ half)) (Some (pos n)) None

-- the signed number, by what stands after a sign where one does
abbrev pub signed_by : ℕ → ℕ → List ℕ → Option (List ℕ) → Option ℤ
signed_by half bits text None = option_and_then (positive half) (number_of bits text)
signed_by half bits text (Some digits) = option_and_then (negative half) (number_of bits digits)

-- the signed number, within 2 to the power of `half` on both sides, that is spelled so
unfoldable pub signed_of : ℕ → ℕ → List ℕ → Option ℤ
signed_of half bits text = signed_by half bits text (strip (codes "-") text)

-- a signed number up to the end of the word
unfoldable pub signed_at : ℕ → ℕ → List ℕ → Option (ℤ × List ℕ)
signed_at half bits text = option_map (λ z. (z, (until_space text).1)) (signed_of half bits (until_space text).0)

-- the value of a hexadecimal digit, whose letters are small
abbrev pub digit : ℕ → Option ℕ
digit c = cond (nat_le 48 c && nat_le c 57) (Some (c - 48)) (cond (nat_le 97 c && nat_le c 102) (Some (c - 97 + 10)) None)

-- a byte before those that are read after it
abbrev pub with_byte : ℕ → Option (List ℕ) → Option (List ℕ)
with_byte b o = option_map (λ bs. b ∷ bs) o

-- the value of the first digit of a pair, or the end of one
abbrev pub paired : (Option ℕ → Option (List ℕ)) → Option ℕ → ℕ → Option (List ℕ)
paired later None value = later (Some value)
paired later (Some high) value = with_byte (16 * high + value) (later None)

-- where no pair is half read
abbrev pub unpaired : Option ℕ → Option (List ℕ)
unpaired None = Some []
unpaired (Some high) = None

-- the bytes whose pairs of digits these are, where the first of a pair may stand before
unfoldable pub unhexed : Option ℕ → List ℕ → Option (List ℕ)
unhexed high [] = unpaired high
unhexed high (c ∷ cs) = option_and_then (paired (λ h. unhexed h cs) high) (digit c)

-- bytes up to the end of the word
unfoldable pub bytes_at : List ℕ → Option (List ℕ × List ℕ)
bytes_at text = option_map (λ bs. (bs, (until_space text).1)) (unhexed None (until_space text).0)
