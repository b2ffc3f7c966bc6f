-- What a seat has in hand after its own move.
use Rattle.std.proofs.Common.{◌≡◌, ◌≢◌, ℕ, ◌+◌, ◌-◌, arith, sym, subst, Some, None}
use Rattle.gh_marks.proofs.Vocabulary.{Ask, Black, Buffered, buffers_as_held, Claimed, ClaimOf, Colour, Cycle, EachHandFollows, Enter, entry_words, GiveBuffer, Good, Hands, Has, Held, HoldsBuffer, InHand, mark_words, May, moved, nat_tests, NoClaim, Pending, Placing, Quiet, Read, ReadOf, Row, Scanned, seen_global, Shared, TakeBuffer, Taken, update, White}
use Rattle.gh_marks.proofs.Bits.{white-colour}
use Rattle.gh_marks.proofs.Quiet.{ReadRows, Unread, unread}

module _ (z : Cycle) (a : ℕ) (s : Shared) (h : InHand) (g : Good z s) (x : Hands a s h) where
  -- what is said of colours and globals
  has-white : (o : ℕ) → s.colour o ≡ White → (c : Colour) → c ≢ Pending a → c ≢ Taken a → c ≢ Placing a → Has (update s.colour o c) s.progress a h.pending h.scanning h.placing h.claim
  has-white o white c p t r = grind (arith, nat_tests)

  has-shade : (o : ℕ) → s.colour o ≡ White → h.pending ≡ None → Has (update s.colour o (Pending a)) s.progress a (Some o) h.scanning h.placing h.claim
  has-shade o white none = record {
    is_pending = λ q. grind (arith, nat_tests, x.has.is_pending q, none);
    is_taken = λ q. grind (arith, nat_tests, x.has.is_taken q, white);
    is_reserved = λ q. grind (arith, nat_tests, x.has.is_reserved q, white);
    is_claimed = x.has.is_claimed;
    is_read = x.has.is_read;
  }

  has-enter : (b j o : ℕ) → h.pending ≡ Some o → Has (update s.colour o (Buffered b j)) s.progress a None h.scanning h.placing h.claim
  has-enter b j o some =
      let was : s.colour o ≡ Pending a = (x.has.is_pending o).0 some in
      record {
        is_pending = λ q. grind (arith, nat_tests, x.has.is_pending q, some);
        is_taken = λ q. grind (arith, nat_tests, x.has.is_taken q, was);
        is_reserved = λ q. grind (arith, nat_tests, x.has.is_reserved q, was);
        is_claimed = x.has.is_claimed;
        is_read = x.has.is_read;
      }

  has-take : (b j o : ℕ) → s.colour o ≡ Buffered b j → h.scanning ≡ None → Has (update s.colour o (Taken a)) s.progress a h.pending (Some o) h.placing h.claim
  has-take b j o was none = record {
    is_pending = λ q. grind (arith, nat_tests, x.has.is_pending q, was);
    is_taken = λ q. grind (arith, nat_tests, x.has.is_taken q, none);
    is_reserved = λ q. grind (arith, nat_tests, x.has.is_reserved q, was);
    is_claimed = x.has.is_claimed;
    is_read = x.has.is_read;
  }

  has-black : (o : ℕ) → h.scanning ≡ Some o → Has (update s.colour o Black) s.progress a h.pending None h.placing h.claim
  has-black o some =
      let was : s.colour o ≡ Taken a = (x.has.is_taken o).0 some in
      record {
        is_pending = λ q. grind (arith, nat_tests, x.has.is_pending q, was);
        is_taken = λ q. grind (arith, nat_tests, x.has.is_taken q, some);
        is_reserved = λ q. grind (arith, nat_tests, x.has.is_reserved q, was);
        is_claimed = x.has.is_claimed;
        is_read = x.has.is_read;
      }

  has-reserve : (o : ℕ) → s.colour o ≡ White → h.placing ≡ None → Has (update s.colour o (Placing a)) s.progress a h.pending h.scanning (Some o) h.claim
  has-reserve o white none = record {
    is_pending = λ q. grind (arith, nat_tests, x.has.is_pending q, white);
    is_taken = λ q. grind (arith, nat_tests, x.has.is_taken q, white);
    is_reserved = λ q. grind (arith, nat_tests, x.has.is_reserved q, none);
    is_claimed = x.has.is_claimed;
    is_read = x.has.is_read;
  }

  has-place : (o : ℕ) → h.placing ≡ Some o → Has (update s.colour o Black) s.progress a h.pending h.scanning None h.claim
  has-place o some =
      let was : s.colour o ≡ Placing a = (x.has.is_reserved o).0 some in
      record {
        is_pending = λ q. grind (arith, nat_tests, x.has.is_pending q, was);
        is_taken = λ q. grind (arith, nat_tests, x.has.is_taken q, was);
        is_reserved = λ q. grind (arith, nat_tests, x.has.is_reserved q, some);
        is_claimed = x.has.is_claimed;
        is_read = x.has.is_read;
      }

  has-claim : (i : ℕ) → h.claim ≡ NoClaim → Has s.colour (update s.progress i (Claimed a)) a h.pending h.scanning h.placing (ClaimOf i)
  has-claim i none = record {
    is_pending = x.has.is_pending;
    is_taken = x.has.is_taken;
    is_reserved = x.has.is_reserved;
    is_claimed = λ j. grind (arith, nat_tests, x.has.is_claimed j, none);
    is_read = λ j v. grind (arith, nat_tests, x.has.is_read j v, none);
  }

  has-read : (i value : ℕ) → h.claim ≡ ClaimOf i → Has s.colour (update s.progress i (Read a value)) a h.pending h.scanning h.placing (ReadOf i value)
  has-read i value some = record {
    is_pending = x.has.is_pending;
    is_taken = x.has.is_taken;
    is_reserved = x.has.is_reserved;
    is_claimed = λ j. grind (arith, nat_tests, x.has.is_claimed j, some);
    is_read = λ j v. grind (arith, nat_tests, x.has.is_read j v, some);
  }

  has-scan : (i value : ℕ) → h.claim ≡ ReadOf i value → Has s.colour (update s.progress i Scanned) a h.pending h.scanning h.placing NoClaim
  has-scan i value some = record {
    is_pending = x.has.is_pending;
    is_taken = x.has.is_taken;
    is_reserved = x.has.is_reserved;
    is_claimed = λ j. grind (arith, nat_tests, x.has.is_claimed j, some);
    is_read = λ j v. grind (arith, nat_tests, x.has.is_read j v, some);
  }

  -- what is said of the buffers
  holds-quiet : (step : Ask) → May z a s (Quiet step) → HoldsBuffer (buffers_as_held (moved z a s (Quiet step)).words s.filled) a h.held
  holds-quiet step may =
      let u : Unread s (moved z a s (Quiet step)).words = unread s step may in
      subst (λ (r : ReadRows). HoldsBuffer (record { words = r.buffer; entries = r.entry; filled = s.filled }) a h.held) (sym u.rows_are) x.holds

  holds-take : (b : ℕ) → May z a s (TakeBuffer b) → h.held ≡ None → HoldsBuffer (buffers_as_held (moved z a s (TakeBuffer b)).words s.filled) a (Some (record { index = b; count = s.filled b }))
  holds-take b may none = grind arith

  holds-give : (own : Held) → h.held ≡ Some own → HoldsBuffer (buffers_as_held (moved z a s (GiveBuffer own.index)).words s.filled) a None
  holds-give own e = grind arith

  holds-enter : (own : Held) (entry : ℕ → Row) → h.held ≡ Some own → HoldsBuffer (record { words = (buffers_as_held s.words s.filled).words; entries = entry; filled = update s.filled own.index (s.filled own.index + 1) }) a (Some (record { index = own.index; count = own.count + 1 }))
  holds-enter own entry e = grind arith

  holds-less : (own : Held) → h.held ≡ Some own → HoldsBuffer (buffers_as_held s.words (update s.filled own.index (s.filled own.index - 1))) a (Some (record { index = own.index; count = own.count - 1 }))
  holds-less own e = grind arith

pub hands-follow : EachHandFollows
hands-follow z a s h g x = record {
  quiet = λ step may. record { holds = holds-quiet z a s h g x step may; has = x.has };
  shaded = λ o may none. record { holds = x.holds; has = has-shade z a s h g x o (white-colour (mark_words s.words) s.colour g.marks o may.0.white) none };
  flat = λ o may. record { holds = x.holds; has = has-white z a s h g x o (white-colour (mark_words s.words) s.colour g.marks o may.0.white) Black (λ e. cc) (λ e. cc) (λ e. cc) };
  again = λ o. record { holds = x.holds; has = x.has };
  takes_buffer = λ b may none. record { holds = holds-take z a s h g x b may none; has = x.has };
  gives_buffer = λ own e. record { holds = holds-give z a s h g x own e; has = x.has };
  entered = λ own o may e some. record { holds = holds-enter z a s h g x own (entry_words (moved z a s (Enter own.index o)).words) e; has = has-enter z a s h g x own.index (s.filled own.index) o some };
  takes_entry = λ own o may e none. record { holds = holds-less z a s h g x own e; has = has-take z a s h g x own.index (s.filled own.index - 1) o (g.entries.entered own.index (s.filled own.index - 1) o (omega (arith, may.some)) may.entry) none };
  blackened = λ o some. record { holds = x.holds; has = has-black z a s h g x o some };
  put_field = λ y v. record { holds = x.holds; has = x.has };
  put_global = λ i v. record { holds = x.holds; has = x.has };
  claimed = λ i may none. record { holds = x.holds; has = has-claim z a s h g x i none };
  passed = λ i. record { holds = x.holds; has = x.has };
  read = λ i some. record { holds = x.holds; has = has-read z a s h g x i (seen_global s i) some };
  scanned = λ i v some. record { holds = x.holds; has = has-scan z a s h g x i v some };
  set = λ f d v. record { holds = x.holds; has = x.has };
  scanned_stack = λ f. record { holds = x.holds; has = x.has };
  ended = λ f. record { holds = x.holds; has = x.has };
  reserved = λ o may none. record { holds = x.holds; has = has-reserve z a s h g x o may.white none };
  placed = λ o size pointer noscan f d some. record { holds = x.holds; has = has-place z a s h g x o some };
}
