use Rattle.std.proofs.Common.{◌≡◌, ◌⊎◌, inl, inr, ℕ, zero, suc, ◌<◌, List, Bool, true, ◌&&◌, Option, Some, None, codes, refl, ap, subst, map, arith}
use Rattle.std.specs.Prelude.{take, IsTrue, is_none}
use Rattle.std.specs.List.{list_all}
use Rattle.std.specs.Char.{encode_utf8}
use Rattle.std.specs.Str.{chars, is_utf8}
use Rattle.std.specs.Fmt.{digits}
use Rattle.semantics_lines.specs.Shapes.{Draft}
use Rattle.semantics_lines.specs.Scalars.{scalar_drafts}
use Rattle.semantics_lines.specs.Events.{u64, scalar, leaf}
use Rattle.semantics_lines.specs.Lines.{line_of}
use Rattle.semantics_lines.specs.ShapeFaults.{ShapeFaultKind}
use Rattle.semantics.specs.Registry.{shape_is_utf8, fault_at, NoFaultBelow, drafted}
use Rattle.semantics_lines.specs.Tapes.{document_tape}
use Rattle.laws.specs.Example.{shapes, form, form_tape, at}
use Rattle.laws.proofs.example.Goals as goal

scalars_first : take 17 (map drafted shapes) ≡ scalar_drafts
unfolding scalar_drafts
scalars_first = refl

names_are_texts : list_all shape_is_utf8 shapes ≡ true
unfolding is_utf8 chars encode_utf8
names_are_texts = refl

tape_is : document_tape form ≡ form_tape
unfolding digits
tape_is = refl

text_1 : IsTrue (is_utf8 (codes "{"))
unfolding is_utf8 chars encode_utf8
text_1 = refl

text_2 : IsTrue (is_utf8 (codes "k \"x\""))
unfolding is_utf8 chars encode_utf8
text_2 = refl

text_3 : IsTrue (is_utf8 (codes "u 1"))
unfolding is_utf8 chars encode_utf8
text_3 = refl

text_4 : IsTrue (is_utf8 (codes "k \"y\""))
unfolding is_utf8 chars encode_utf8
text_4 = refl

text_5 : IsTrue (is_utf8 (codes "u 2"))
unfolding is_utf8 chars encode_utf8
text_5 = refl

text_6 : IsTrue (is_utf8 (codes "}"))
unfolding is_utf8 chars encode_utf8
text_6 = refl

line_3 : line_of (leaf (scalar (u64 1) (at 8 3))) ≡ Some (codes "u 1")
unfolding digits
line_3 = refl

line_5 : line_of (leaf (scalar (u64 2) (at 18 3))) ≡ Some (codes "u 2")
unfolding digits
line_5 = refl

-- none of the first shapes has a fault
all_sound : List Draft → ℕ → Bool
all_sound ds zero = true
all_sound ds (suc n) = is_none (fault_at ds n) && all_sound ds n

none_there : (o : Option ShapeFaultKind) (b : Bool) → is_none o && b ≡ true → (o ≡ None) × (b ≡ true)
none_there None b e = (refl, e)
none_there (Some k) b e = absurd cc

below_or_last : (i n : ℕ) → i < suc n → (i < n) ⊎ (n ≡ i)
below_or_last zero zero less = inr refl
below_or_last zero (suc n) less = inl (omega arith)
below_or_last (suc i) zero less = absurd (omega arith)
below_or_last (suc i) (suc n) less = next (below_or_last i n (omega arith))
  where
    next : (i < n) ⊎ (n ≡ i) → (suc i < suc n) ⊎ (suc n ≡ suc i)
    next (inl h) = inl (omega arith)
    next (inr e) = inr (ap suc e)

one_more : (ds : List Draft) (n : ℕ) → NoFaultBelow ds n → fault_at ds n ≡ None → NoFaultBelow ds (suc n)
one_more ds n below here i less = by_case (below_or_last i n less)
  where
    by_case : (i < n) ⊎ (n ≡ i) → fault_at ds i ≡ None
    by_case (inl h) = below i h
    by_case (inr e) = subst (λ k. fault_at ds k ≡ None) e here

none_below : (ds : List Draft) (n : ℕ) → all_sound ds n ≡ true → NoFaultBelow ds n
unfolding all_sound
none_below ds zero e = λ i less. absurd (omega arith)
none_below ds (suc n) e =
    let (here, rest) = none_there (fault_at ds n) (all_sound ds n) e in
    one_more ds n (none_below ds n rest) here

all_are_sound : all_sound (map drafted shapes) 18 ≡ true
unfolding all_sound
all_are_sound = refl

pub returns : goal.returns
returns c = record {
  checked = record { scalars = scalars_first; few = omega arith; sound = none_below (map drafted shapes) 18 all_are_sound; utf8 = names_are_texts };
  of_its_shape = refl;
  other_value = refl;
  too_few = refl;
  too_large = refl;
  deep = refl;
  written = refl;
  tape = tape_is;
  events = (
    codes "{",
    _,
    refl,
    record { spelled = refl; texts = tt; utf8 = text_1 },
    refl,
    (
      codes "k \"x\"",
      _,
      refl,
      record { spelled = refl; texts = (refl, tt); utf8 = text_2 },
      refl,
      (
        codes "u 1",
        _,
        refl,
        record { spelled = line_3; texts = (tt, tt); utf8 = text_3 },
        refl,
        (
          codes "k \"y\"",
          _,
          refl,
          record { spelled = refl; texts = (refl, tt); utf8 = text_4 },
          refl,
          (
            codes "u 2",
            _,
            refl,
            record { spelled = line_5; texts = (tt, tt); utf8 = text_5 },
            refl,
            (codes "}", _, refl, record { spelled = refl; texts = tt; utf8 = text_6 }, refl, refl),
          ),
        ),
      ),
    ),
  );
  in_order = refl;
  other_order = refl;
  repeated_key = refl;
  missing_field = refl;
  unknown_key = refl;
  too_deep = refl;
}
