-- The scanner's steps keep what it knows of the text, and its end tells what the text holds.
use Rattle.std.specs.Prelude.{if◌then◌else◌, Some, None}
use Prim.Native.Nat.{ℕ, ◌+◌, ◌*◌, ◌-◌, ◌≤◌, ◌<◌}
use mathlib.Core.Bool.{Bool, true, false, ◌&&◌, false≢true}
use mathlib.Core.Path.{◌≡◌, refl, sym, ap, ◌∙◌}
use mathlib.Core.List.{List, [], ◌∷◌, ◌++◌, append_assoc, append-nil}
use native.Mathlib.Omega.{arith}
use native.Mathlib.Numerals.{add-one}
use borrow.Author.Tests.{lt-ltb, le-ltb, lt-leb, le-leb, ltb-true, ltb-false, leb-true, ne_eqb}
use lib.Dec.{leb, ltb}
use lib.ListN.{length, take, set, get_or, length-append, length-set}
use lib.Seq.{take_all, take-suc, length-take-le, take-suc-set}
use Rattle.text.specs.Numbers.{limit, Contents, holds, malformed, separator, digit, digits, value_from, value, number, prepend, ◌then◌, numbers_after, numbers}
use Rattle.text.specs.Scan.{within, state_of, Scanned, readable, unreadable, Finished, Finishes, Scans, Held, held, between, within_number, fresh, bad, longer, value_in, longer_in, take_digit, end_in, end_number, take_byte, take_bytes}
use Rattle.text.specs.declared.Scanner.{Scanner}
use Rattle.text.specs.declared.State.{State}
use Rattle.text.specs.declared.State.TheVariants.{Between, Within, Bad}
use Rattle.text.proofs.Numbers.{then_none, then_holds, then_end, then_malformed, then_then, digits_one, value_one, number_good, Spoilt, spoilt_byte, spoilt_large, after_separator, after_other, after_spoilt}

pub scanned_none : (list : List ℕ) → Scanned [] list fresh
unfolding digits value_from
scanned_none list = readable [] refl (omega arith) refl (omega arith) (λ rest. sym (then_none (numbers rest)))

-- The text with one byte more, and then the rest.
one_more : (text : List ℕ) (b : ℕ) (rest : List ℕ) → numbers ((text ++ b ∷ []) ++ rest) ≡ numbers (text ++ b ∷ rest)
one_more text b rest = rw append_assoc

within_malformed : (room : ℕ) (c : Contents) → c ≡ malformed → within room c ≡ malformed
unfolding within
within_malformed room c e = rw e

-- ---- a byte that is no separator

module _ (count v b : ℕ) where
  pub longer_good : digit b ≡ true → 10 * v + (b - 48) < limit → longer count v b ≡ within_number count (10 * v + (b - 48))
  unfolding longer
  longer_good d small = simp (d, lt-ltb _ _ small)

  longer_bad : digit b && ltb (10 * v + (b - 48)) limit ≡ false → longer count v b ≡ bad
  unfolding longer
  longer_bad e = simp e

and_false : (t u : Bool) → u ≡ false → t && u ≡ false
and_false true u q = q
and_false false u q = refl

false_and : (t u : Bool) → t ≡ false → t && u ≡ false
false_and t u q = rw q

pub longer_some : (t : State) (count b : ℕ) {v : ℕ} → value_in t ≡ Some v → longer count v b ≡ longer_in t count b
unfolding value_in longer_in
longer_some Between count b e = cc
longer_some (Within w) count b e = cc
longer_some Bad count b e = absurd cc

pub longer_none : (t : State) (count b : ℕ) → value_in t ≡ None → bad ≡ longer_in t count b
unfolding value_in longer_in
longer_none Between count b e = absurd cc
longer_none (Within w) count b e = absurd cc
longer_none Bad count b e = refl

module _ (count v b : ℕ) where
  pub refused_byte : digit b ≡ false → longer count v b ≡ bad
  refused_byte d = longer_bad count v b (false_and (digit b) _ d)

  pub refused_value : limit ≤ 10 * v + (b - 48) → longer count v b ≡ bad
  refused_value h = longer_bad count v b (and_false (digit b) _ (le-ltb _ _ h))

-- The tests of a digit.
module _ (b : ℕ) where
  pub is_digit : 48 ≤ b → b ≤ 57 → digit b ≡ true
  unfolding digit
  is_digit h k = simp (le-leb 48 b h, le-leb b 57 k)

  pub digit_bounds : digit b ≡ true → (48 ≤ b) × (b ≤ 57)
  unfolding digit
  digit_bounds d = go (leb 48 b) refl d
    where
      go : (t : Bool) → leb 48 b ≡ t → t && leb b 57 ≡ true → (48 ≤ b) × (b ≤ 57)
      go true e k = (leb-true 48 b e, leb-true b 57 k)
      go false e k = absurd (false≢true k)

  pub no_separator : digit b ≡ true → separator b ≡ false
  unfolding separator
  no_separator d =
      let large = (digit_bounds d).0 in
      simp (ne_eqb b 32 (λ z. omega arith), ne_eqb b 10 (λ z. omega arith))

state_after : (run : List ℕ) (b : ℕ) → state_of (run ++ b ∷ []) ≡ Within (value (run ++ b ∷ []))
state_after [] b = refl
state_after (x ∷ xs) b = refl

digit_after : (run : List ℕ) (count b : ℕ) → longer_in (state_of run) count b ≡ longer count (value run) b
unfolding longer_in value_from
digit_after [] count b = refl
digit_after (x ∷ xs) count b = refl

scanned_digit : (text list : List ℕ) (s : Scanner) (b : ℕ) → separator b ≡ false → Scanned text list s → Scanned (text ++ b ∷ []) list (take_digit b s)
unfolding longer_in
scanned_digit text list s b e (unreadable st all) =
    rw st (unreadable refl (λ rest. ap (within (length list)) (one_more text b rest) ∙ all (b ∷ rest)))
scanned_digit text list s b e (readable run ds small st fits all) = rw (st, digit_after run) (go (digit b) refl (ltb (10 * value run + (b - 48)) limit) refl)
  where
    goes : (rest : List ℕ) → numbers ((text ++ b ∷ []) ++ rest) ≡ (holds (take s.count list) then numbers_after (run ++ b ∷ []) rest)
    goes rest = one_more text b rest ∙ all (b ∷ rest) ∙ ap (λ c. holds (take s.count list) then c) (after_other run b rest e)

    spoilt : Spoilt (run ++ b ∷ []) → Scanned (text ++ b ∷ []) list bad
    spoilt h = unreadable refl (λ rest. within_malformed _ _ (goes rest ∙ ap (λ c. holds (take s.count list) then c) (after_spoilt h rest) ∙ then_malformed _))

    next : value (run ++ b ∷ []) ≡ 10 * value run + (b - 48)
    next = value_one run b

    go : (d : Bool) → digit b ≡ d → (l : Bool) → ltb (10 * value run + (b - 48)) limit ≡ l → Scanned (text ++ b ∷ []) list (longer s.count (value run) b)
    go false d l q = rw (refused_byte s.count (value run) b d) (spoilt (spoilt_byte run b d))
    go true d false q =
        let large : limit ≤ 10 * value run + (b - 48) = ltb-false _ _ q in
        rw (refused_value s.count (value run) b large) (spoilt (spoilt_large run b (omega (arith, next))))
    go true d true q =
        let less : 10 * value run + (b - 48) < limit = ltb-true _ _ q in
        rw (longer_good s.count (value run) b d less)
        (readable (run ++ b ∷ []) (digits_one run b ds d) (omega (arith, next)) (ap Within (sym next) ∙ sym (state_after run b)) fits goes)

-- ---- the end of a number

end_other : (t : State) (h : Held) → ((v : ℕ) → t ≡ Within v → ⊥) → end_in t h ≡ h
unfolding end_in
end_other Between h deny = refl
end_other (Within v) h deny = absurd (deny v refl)
end_other Bad h deny = refl

end_within : (s : Scanner) (list : List ℕ) {v : ℕ} → s.state ≡ Within v → s.count < length list → end_number (held s list) ≡ held (between (s.count + 1)) (set list s.count v)
unfolding end_in
end_within s list e room = rw (e, lt-ltb _ _ room)

end_full : (s : Scanner) (list : List ℕ) {v : ℕ} → s.state ≡ Within v → length list ≤ s.count → end_number (held s list) ≡ held bad list
unfolding end_in
end_full s list e full = rw (e, le-ltb _ _ full)

-- More numbers than there is room for.
over : (xs : List ℕ) (x : ℕ) (c : Contents) (room : ℕ) → length xs ≡ room → within room (holds xs then (holds (x ∷ []) then c)) ≡ malformed
unfolding within ◌then◌ prepend
over xs x malformed room e = refl
over xs x (holds ys) room e = simp (lt-leb (length (xs ++ x ∷ ys)) room (omega (arith, length-append xs (x ∷ ys))))

-- After a number's end: the scanner has the numbers xs and the number of the run, if any; or there is no room for it.
data Ended (xs run : List ℕ) (h : Held) : Type 0 where
  ended : h.scanner.state ≡ Between → h.scanner.count ≤ length h.list
      → ((c : Contents) → (holds xs then (number run then c)) ≡ (holds (take h.scanner.count h.list) then c)) → Ended xs run h
  overfull : h.scanner.state ≡ Bad → ((c : Contents) → within (length h.list) (holds xs then (number run then c)) ≡ malformed) → Ended xs run h

ends : (list : List ℕ) (s : Scanner) (run : List ℕ) → digits run ≡ true → value run < limit → s.state ≡ state_of run → s.count ≤ length list
    → Ended (take s.count list) run (end_number (held s list))
unfolding number end_in
ends list s [] ds small st fits = rw st (ended refl fits (λ c. ap (λ d. holds (take s.count list) then d) (then_none c)))
ends list s (x ∷ xs) ds small st fits = go (ltb s.count (length list)) refl
  where
    v : ℕ
    v = value (x ∷ xs)

    one : number (x ∷ xs) ≡ holds (v ∷ [])
    one = number_good x xs ds small

    go : (t : Bool) → ltb s.count (length list) ≡ t → Ended (take s.count list) (x ∷ xs) (end_number (held s list))
    go false q =
        let full : length list ≤ s.count = ltb-false _ _ q in
        rw (end_full s list st full)
        (overfull refl (λ c. rw one (over (take s.count list) v c (length list) (length-take-le s.count list fits ∙ omega arith))))
    go true q =
        let room : s.count < length list = ltb-true _ _ q in
        rw (end_within s list st room)
        (ended refl (rw length-set (omega arith))
        (λ c.
        rw one
        (then_then (take s.count list) (v ∷ []) c
        ∙ ap (λ l. holds l then c) (sym (ap (λ n. take n (set list s.count v)) (add-one s.count) ∙ take-suc-set list s.count v room)))))

-- ---- a separator

scanned_separator : (text list : List ℕ) (s : Scanner) (b : ℕ) → separator b ≡ true → Scanned text list s
    → Scanned (text ++ b ∷ []) (end_number (held s list)).list (end_number (held s list)).scanner
unfolding digits value_from end_in
scanned_separator text list s b e (unreadable st all) =
    rw st (unreadable refl (λ rest. ap (within (length list)) (one_more text b rest) ∙ all (b ∷ rest)))
scanned_separator text list s b e (readable run ds small st fits all) = go (end_number (held s list)) (ends list s run ds small st fits)
  where
    goes : (rest : List ℕ) → numbers ((text ++ b ∷ []) ++ rest) ≡ (holds (take s.count list) then (number run then numbers rest))
    goes rest = one_more text b rest ∙ all (b ∷ rest) ∙ ap (λ c. holds (take s.count list) then c) (after_separator run b rest e)

    go : (h : Held) → Ended (take s.count list) run h → Scanned (text ++ b ∷ []) h.list h.scanner
    go h (ended st' fits' same) = readable [] refl (omega arith) st' fits' (λ rest. goes rest ∙ same (numbers rest))
    go h (overfull st' none) = unreadable st' (λ rest. ap (within (length h.list)) (goes rest) ∙ none (numbers rest))

-- ---- the end of the text

finished : (text list : List ℕ) (s : Scanner) → Scanned text list s → Finished text (end_number (held s list)).list (end_number (held s list)).scanner
unfolding numbers_after end_in
finished text list s (unreadable st all) =
    rw st (record { bad = λ e. ap (λ t. within (length list) (numbers t)) (sym (append-nil text)) ∙ all []; good = λ n. absurd (n refl) })
finished text list s (readable run ds small st fits all) = go (end_number (held s list)) (ends list s run ds small st fits)
  where
    whole : numbers text ≡ (holds (take s.count list) then (number run then holds []))
    whole = ap numbers (sym (append-nil text)) ∙ all [] ∙ ap (λ c. holds (take s.count list) then c) (sym (then_end (number run)))

    go : (h : Held) → Ended (take s.count list) run h → Finished text h.list h.scanner
    go h (ended st' fits' same) =
        record {
          bad = λ e. cc;
          good = λ n. (fits', whole ∙ same (holds []) ∙ then_holds _ [] ∙ ap holds (append-nil (take h.scanner.count h.list)));
        }
    go h (overfull st' none) = record { bad = λ e. ap (within (length h.list)) whole ∙ none (holds []); good = λ n. absurd (n st') }

-- ---- several bytes

scanned_byte : (text : List ℕ) (b : ℕ) (h : Held) → Scanned text h.list h.scanner → Scanned (text ++ b ∷ []) (take_byte b h).list (take_byte b h).scanner
unfolding take_byte
scanned_byte text b h before = go (separator b) refl
  where
    go : (t : Bool) → separator b ≡ t → Scanned (text ++ b ∷ []) (if t then end_number h else held (take_digit b h.scanner) h.list).list (if t then end_number h else held (take_digit b h.scanner) h.list).scanner
    go true e = scanned_separator text h.list h.scanner b e before
    go false e = scanned_digit text h.list h.scanner b e before

scanned_bytes : (text chunk : List ℕ) (h : Held) → Scanned text h.list h.scanner → Scanned (text ++ chunk) (take_bytes chunk h).list (take_bytes chunk h).scanner
unfolding take_bytes
scanned_bytes text [] h before = rw (append-nil text) before
scanned_bytes text (b ∷ bs) h before = rw (append_assoc text (b ∷ []) bs) at (scanned_bytes (text ++ b ∷ []) bs (take_byte b h) (scanned_byte text b h before))

-- Where a text is cut does not matter.
pub take_bytes_append : (bs cs : List ℕ) (h : Held) → take_bytes (bs ++ cs) h ≡ take_bytes cs (take_bytes bs h)
unfolding take_bytes
take_bytes_append [] cs h = refl
take_bytes_append (b ∷ bs) cs h = take_bytes_append bs cs (take_byte b h)

-- ---- the contracts

-- A call that does what `finish` does promises what `finish` promises.
finishes : {s : Scanner} {l : List ℕ} {r : Scanner} {l' : List ℕ} → held r l' ≡ end_number (held s l) → Finishes s l r l'
finishes {s} {l} {r} {l'} e = record { does = e; meets = λ text h. rw (← ap (λ x. x.list) e, ← ap (λ x. x.scanner) e) at (finished text l s h) }

module _ (s : Scanner) (l : List ℕ) where
  pub finishes_other : ((v : ℕ) → s.state ≡ Within v → ⊥) → Finishes s l s l
  finishes_other deny = finishes (sym (end_other s.state (held s l) deny))

  pub finishes_full : {v : ℕ} → s.state ≡ Within v → length l ≤ s.count → Finishes s l bad l
  finishes_full e full = finishes (sym (end_full s l e full))

  pub finishes_within : {v : ℕ} → s.state ≡ Within v → s.count < length l → Finishes s l (between (s.count + 1)) (set l s.count v)
  finishes_within e room = finishes (sym (end_within s l e room))

-- A byte by its kind.
module _ (b : ℕ) (s : Scanner) (l : List ℕ) where
  pub takes_digit : {r : Scanner} → digit b ≡ true → r ≡ take_digit b s → held r l ≡ take_byte b (held s l)
  unfolding take_byte
  takes_digit d f = ap (λ x. held x l) f ∙ simp (no_separator b d)

  pub takes_separator : {r : Scanner} {l' : List ℕ} → separator b ≡ true → Finishes s l r l' → held r l' ≡ take_byte b (held s l)
  unfolding take_byte
  takes_separator e f = f.does ∙ simp e

  pub takes_other : digit b ≡ false → separator b ≡ false → held bad l ≡ take_byte b (held s l)
  unfolding take_byte longer_in
  takes_other d e = simp e (ap (λ x. held x l) (sym (spoils s.state)))
    where
      spoils : (t : State) → longer_in t s.count b ≡ bad
      spoils Between = refused_byte s.count 0 b d
      spoils (Within v) = refused_byte s.count v b d
      spoils Bad = refl

-- A scan of a chunk, of which the first i bytes are read.
pub record Reads (chunk : List ℕ) (s : Scanner) (l : List ℕ) (r : Scanner) (l' : List ℕ) (i : ℕ) : Type 0 where
  pub does : held r l' ≡ take_bytes (take i chunk) (held s l)
  pub same : length l' ≡ length l

module _ (chunk : List ℕ) (s : Scanner) (l : List ℕ) where
  pub reads_none : Reads chunk s l s l 0
  unfolding take_bytes
  reads_none = record { does = refl; same = refl }

  pub reads_more : {r : Scanner} {l' : List ℕ} {i : ℕ} → Reads chunk s l r l' i → i < length chunk → {r'' : Scanner} {l'' : List ℕ} → length l'' ≡ length l'
      → held r'' l'' ≡ take_byte (get_or chunk i 0) (held r l') → Reads chunk s l r'' l'' (i + 1)
  unfolding take_bytes
  reads_more {r} {l'} {i} h inside same e =
      record {
        does =
            e
            ∙ ap (take_byte (get_or chunk i 0)) h.does
            ∙ sym (ap (λ bs. take_bytes bs (held s l)) (ap (λ n. take n chunk) (add-one i) ∙ take-suc chunk i 0 inside) ∙ take_bytes_append (take i chunk) (get_or chunk i 0 ∷ []) (held s l));
        same = same ∙ h.same;
      }

  pub scans : {r : Scanner} {l' : List ℕ} {i : ℕ} → Reads chunk s l r l' i → length chunk ≤ i → Scans chunk s l r l'
  scans {r} {l'} {i} h all =
      let e : held r l' ≡ take_bytes chunk (held s l) = h.does ∙ ap (λ bs. take_bytes bs (held s l)) (take_all i chunk all) in
      record { does = e; meets = λ text before. rw (← ap (λ x. x.list) e, ← ap (λ x. x.scanner) e) at (scanned_bytes text chunk (held s l) before) }
