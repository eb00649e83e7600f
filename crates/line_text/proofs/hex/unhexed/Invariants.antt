use Rattle.std.proofs.Common.{drop}
use Rattle.line_text.proofs.Pairs.{ReadPairs, IsHalf}
use Rattle.line_text.proofs.hex.unhexed.Given as goal

abbrev pub invariant-digits : goal.invariant-digits
invariant-digits l = ReadPairs l.bytes l.high (drop l.c-index l.digits) l.digits × IsHalf l.high
