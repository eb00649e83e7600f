-- One part after another.
use Rattle.std.proofs.Common.{◌≡◌, List, [], ◌++◌, Bool, true, false, Ok, Err, refl, sym, ap, ◌∙◌, arith, append_assoc, append-nil}
use Rattle.std.specs.Prelude.{Result}
use Rattle.semantics_lines.specs.Calls.{Call, Settings}
use Rattle.semantics.specs.Calling.{Part, no_form, then, then_if}
use Rattle.format_traits.specs.Writing.{Writing, Kept, Stops}
use Rattle.format_traits.specs.declared.serializer.WriteStop.{WriteStop}
use Rattle.format_traits.specs.declared.serializer.WriteStop.TheVariants.{Alloc, Fault}
use Rattle.format_write.specs.Wrote.{MadeFront}
use Rattle.format_write.specs.Writes.{Halts, Writes}
use Rattle.format_write.specs.declared.stop.Stop.{Stop}
use Rattle.format_write.specs.declared.stop.Stop.TheVariants.{Refused, NoForm}

-- no calls leave a serializer as it is
abbrev pub Starts : {S : Type 0} → (S → S → List Call → Type 0) → Type 0
Starts {S} made = (a : S) → made a a []

-- two lists of calls in turn are one
abbrev pub Joins : {S : Type 0} → (S → S → List Call → Type 0) → Type 0
Joins {S} made = (a b c : S) (xs ys : List Call) → made a b xs → made b c ys → made a c (xs ++ ys)

kept_then : (a b c : Writing) → Kept a b → Kept b c → Kept a c
kept_then a b c x y = record { settings = y.settings ∙ x.settings; later = omega arith }

then_stopped : (p q : Part) → p.whole ≡ false → then p q ≡ record { calls = p.calls; whole = false }
then_stopped p q is = ap (λ w. then_if w p.calls q) is

then_if_assoc : (u v : Bool) (xs ys : List Call) (r : Part) → then (then_if u xs (record { calls = ys; whole = v })) r ≡ then_if u xs (then_if v ys r)
then_if_assoc true true xs ys r = ap (λ l. record { calls = l; whole = r.whole }) (append_assoc xs ys r.calls)
then_if_assoc true false xs ys r = refl
then_if_assoc false v xs ys r = refl

-- three parts in turn
pub then_assoc : (p q r : Part) → then (then p q) r ≡ then p (then q r)
then_assoc p q r = then_if_assoc p.whole q.whole p.calls q.calls r

-- the calls of the first come first
front_if : (w : Bool) (calls : List Call) (q : Part) → (rest : List Call) × ((then_if w calls q).calls ≡ calls ++ rest)
front_if true calls q = (q.calls, refl)
front_if false calls q = ([], sym (append-nil calls))

-- these calls were made, and with the rest they are the whole
pub record Underway (whole rest : Part) (made : List Call → Type 0) (old new : Writing) : Type 0 where
  pub calls : List Call
  pub made_calls : made calls
  pub is : then_if true calls rest ≡ whole
  pub kept : Kept old new

-- nothing was made yet
pub started : {S : Type 0} (made : S → S → List Call → Type 0) (w : S → Writing) → Starts made → (a : S) (whole : Part) → Underway whole whole (made a a) (w a) (w a)
started made w starts a whole = record { calls = []; made_calls = starts a; is = refl; kept = record { settings = refl; later = omega arith } }

-- nothing that can be written is left
pub halted : (E : Type 0) (m : List Call → Type 0) (wa wb : Writing) (whole rest : Part) → rest ≡ no_form → Underway whole rest m wa wb → Writes {E = E} whole m wa wb (Err NoForm)
halted E m wa wb whole rest none x = rw (sym x.is, none) ((refl, rw (append-nil x.calls) x.made_calls), x.kept)

module _ (m : List Call → Type 0) where
  front_more : (p q : Part) → MadeFront p.calls m → MadeFront (then p q).calls m
  front_more p q f = let (rest, is) = front_if p.whole p.calls q in
      record { front = f.front; rest = f.rest ++ rest; is = is ∙ ap (λ x. x ++ rest) f.is ∙ append_assoc f.front f.rest rest; made_front = f.made_front }

module _ {E : Type 0} (m : List Call → Type 0) (wa wb : Writing) where
  -- the first part already stops
  halts_more : (p q : Part) (e : Stop E) → Halts p m wa wb e → Halts (then p q) m wa wb e
  halts_more p q (Refused why) f = (front_more m p q f.0, f.1)
  halts_more p q NoForm f = rw (then_stopped p q f.0) (refl, f.1)

module _ {S : Type 0} (made : S → S → List Call → Type 0) (joins : Joins made) (a b c : S) where
  front_then : (done : List Call) (q : Part) → made a b done → MadeFront q.calls (made b c) → MadeFront (done ++ q.calls) (made a c)
  front_then done q m f = record {
    front = done ++ f.front;
    rest = f.rest;
    is = ap (λ x. done ++ x) f.is ∙ sym (append_assoc done f.front f.rest);
    made_front = joins a b c done f.front m f.made_front;
  }

module _ {S E : Type 0} (made : S → S → List Call → Type 0) (joins : Joins made) (a b c : S) (wa wb wc : Writing) where
  stops_then : (why : WriteStop E) → Kept wa wb → Stops wb wc why → Stops wa wc why
  stops_then Alloc k s = s
  stops_then (Fault e) k s = omega arith

  -- calls were made, and then a part was written
  halts_then : (done : List Call) (q : Part) (e : Stop E) → made a b done → Kept wa wb → Halts q (made b c) wb wc e → Halts (then_if true done q) (made a c) wa wc e
  halts_then done q (Refused why) m k f = (front_then made joins a b c done q m f.0, stops_then why k f.1)
  halts_then done q NoForm m k f = (f.0, joins a b c done q.calls m f.1)

  writes_then : (done : List Call) (q : Part) (r : Result (Unit {0}) (Stop E)) → made a b done → Kept wa wb → Writes q (made b c) wb wc r → Writes (then_if true done q) (made a c) wa wc r
  writes_then done q (Ok u) m k y = (y.0, joins a b c done q.calls m y.1, kept_then wa wb wc k y.2)
  writes_then done q (Err e) m k y = (halts_then done q e m k y.0, kept_then wa wb wc k y.1)

-- The settings stay, so what a part looks at in them stays.
module _ {S : Type 0} (E : Type 0) (made : S → S → List Call → Type 0) (joins : Joins made) (w : S → Writing) (a b c : S) where
  -- a part was written, and the rest is left
  pub next : (whole now rest : Part) (p : Settings → Part) (u : Unit {0}) → Underway whole now (made a b) (w a) (w b) → now ≡ then (p (w a).settings) rest
      → Writes {E = E} (p (w b).settings) (made b c) (w b) (w c) (Ok u) → Underway whole rest (made a c) (w a) (w c)
  next whole now rest p u x is y =
      let q = p (w a).settings in
      let z : Writes {E = E} q (made b c) (w b) (w c) (Ok u) = rw (sym x.kept.settings) y in
      record {
        calls = x.calls ++ q.calls;
        made_calls = joins a b c x.calls q.calls x.made_calls z.1;
        is = ap (λ l. record { calls = l; whole = rest.whole }) (append_assoc x.calls q.calls rest.calls) ∙ ap (λ v. then_if true x.calls (then_if v q.calls rest)) (sym z.0) ∙ ap (λ n. then_if true x.calls n) (sym is) ∙ x.is;
        kept = kept_then (w a) (w b) (w c) x.kept z.2;
      }

  -- the last part ends the whole as it ends
  pub last : (whole : Part) (p : Settings → Part) (r : Result (Unit {0}) (Stop E)) → Underway whole (p (w a).settings) (made a b) (w a) (w b)
      → Writes (p (w b).settings) (made b c) (w b) (w c) r → Writes whole (made a c) (w a) (w c) r
  last whole p r x y = rw (sym x.is) (writes_then made joins a b c (w a) (w b) (w c) x.calls (p (w a).settings) r x.made_calls x.kept (rw (sym x.kept.settings) y))

  -- the part stopped, and the whole with it
  pub failed : (whole now rest : Part) (p : Settings → Part) (e : Stop E) → Underway whole now (made a b) (w a) (w b) → now ≡ then (p (w a).settings) rest
      → Writes (p (w b).settings) (made b c) (w b) (w c) (Err e) → Writes whole (made a c) (w a) (w c) (Err e)
  failed whole now rest p e x is y =
      let z : Writes (p (w a).settings) (made b c) (w b) (w c) (Err e) = rw (sym x.kept.settings) y in
      let more : Writes (then (p (w a).settings) rest) (made b c) (w b) (w c) (Err e) = (halts_more (made b c) (w b) (w c) (p (w a).settings) rest e z.0, z.1) in
      last whole (λ s. then (p (w a).settings) rest) (Err e) (rw (sym is) x) more

-- what stands between two other parts, as between the begin and the end of a list
module _ {S : Type 0} (E : Type 0) (made : S → S → List Call → Type 0) (starts : Starts made) (joins : Joins made) (w : S → Writing) (a b : S) (head inner end : Part) where
  pub begun : (u : Unit {0}) → Writes {E = E} head (made a b) (w a) (w b) (Ok u) → Underway (then (then head inner) end) (then inner end) (made a b) (w a) (w b)
  begun u y = let whole = then (then head inner) end in
      next E made joins w a a b whole whole (then inner end) (λ s. head) u (started made w starts a whole) (then_assoc head inner end) y

  pub not_begun : (e : Stop E) → Writes head (made a b) (w a) (w b) (Err e) → Writes (then (then head inner) end) (made a b) (w a) (w b) (Err e)
  not_begun e y = let whole = then (then head inner) end in
      failed E made joins w a a b whole whole (then inner end) (λ s. head) e (started made w starts a whole) (then_assoc head inner end) y
