-- The memory that registers leave, register by register.
use Prim.Native.Nat.{ℕ, zero, suc, ◌+◌, ◌≤◌, ◌<◌}
use mathlib.Core.Path.{◌≡◌, refl, sym, ap, ◌∙◌}
use mathlib.Core.List.{◌++◌}
use native.Mathlib.Omega.{arith}
use native.Mathlib.Numerals.{add-one}
use lib.ListN.{length, take, drop, set, length-set, length-drop}
use lib.Seq.{sets, length-sets, length-take-le, take-set-lt}
use Rattle.words.proofs.Lists.{front_sets}
use Rattle.semantics.specs.Words.{Words, word, sum_below}
use Rattle.semantics.specs.Table.{variables, count}
use Rattle.semantics.specs.Registers.{register_count, register_place, register_variable, register_length, register_words, register_start}
use Rattle.semantics.specs.Rules.{State}
use Rattle.semantics.specs.Run.{with_register, registers_below}
use Rattle.semantics.proofs.Lists.{zeroed_clear}
use Rattle.semantics.proofs.Invariant.{Inv}
use Rattle.semantics.proofs.Registers.{Listed, register_inside, registers_unused, registers_inv}
use Rattle.registers.specs.Blocks.{memory, Holds, RegisterSet, RegistersSet, Fits, Alike, AllFit}

-- ---- one register

module _ {l : Words} {p u w : ℕ} {vs bs es : Words} (named : w ≡ word l p) where
  pub no_words : word l (p + 1) ≡ 0 → RegisterSet l p vs bs es u (set vs (1 + w) 0) (set bs (1 + w) 0) (set es (1 + w) 0) u
  no_words none = record { holds = rw (named, none) (record { values = refl; bases = refl; ends = refl; unused = refl }) }

  pub some_words : {a k : ℕ} {vs₁ : Words} → ((w : ℕ) → u ≤ w → (word bs w ≡ 0) × (word es w ≡ 0)) → (word l (p + 1) ≡ 0 → ⊥) → vs₁ ≡ sets vs a (take k (drop (p + 2) l)) → a ≡ u → k ≡ word l (p + 1)
      → RegisterSet l p vs bs es u (set vs₁ (1 + w) u) (set bs (1 + w) u) (set es (1 + w) (u + word l (p + 1))) (u + word l (p + 1))
  some_words clear some h ea ek = record { holds = rw (named, h, ea, ek) (go (word l (p + 1)) some) }
    where
      go : (n : ℕ) → (n ≡ 0 → ⊥)
          → Holds (with_register (word l p) n (take n (drop (p + 2) l)) (memory vs bs es u)) (set (sets vs u (take n (drop (p + 2) l))) (1 + word l p) u) (set bs (1 + word l p) u) (set es (1 + word l p) (u + n)) (u + n)
      go zero q = absurd (q refl)
      go (suc n) q =
          rw (zeroed_clear bs u (suc n) (λ w k. (clear w k).0), zeroed_clear es u (suc n) (λ w k. (clear w k).1))
          (record { values = refl; bases = refl; ends = refl; unused = refl })

-- A register does the same to a state as to its lists and first unused word.
same_register : (s : State) {vs bs es : Words} {u : ℕ} (v n : ℕ) (ws : Words) → Holds s vs bs es u
    → let m = with_register v n ws (memory vs bs es u) in Holds (with_register v n ws s) m.values m.bases m.ends m.unused
same_register s v zero ws h = rw (h.values, h.bases, h.ends, h.unused) (record { values = refl; bases = refl; ends = refl; unused = refl })
same_register s v (suc n) ws h = rw (h.values, h.bases, h.ends, h.unused) (record { values = refl; bases = refl; ends = refl; unused = refl })

-- ---- values of words that are not in use

-- A list that a register's n words are stored in from word u on, and another word below u: what is in use of it afterwards.
front_register : (l : Words) (u : ℕ) {n : ℕ} (ws : Words) (w x : ℕ) → w < u → length ws ≡ n → u + n ≤ length l → take (u + n) (set (sets l u ws) w x) ≡ set (take u l ++ ws) w x
front_register l u {n} ws w x named all room =
    take-set-lt (u + n) (sets l u ws) w x (omega arith) ∙ ap (λ (k : Words). set k w x) (rw all at (front_sets l u ws (omega arith)))

-- A register stores each of its words, so what was there before makes no difference.
register_alike : {s s' : State} (v n : ℕ) (ws : Words) → 1 + v < s.unused → length ws ≡ n → s.unused + n ≤ length s.values → Alike s s'
    → Alike (with_register v n ws s) (with_register v n ws s')
register_alike {s} {s'} v zero ws named all room a =
    record {
      same_length = length-set s.values (1 + v) 0 ∙ a.same_length ∙ sym (length-set s'.values (1 + v) 0);
      values = take-set-lt s.unused s.values (1 + v) 0 named ∙ ap (λ (l : Words). set l (1 + v) 0) a.values ∙ sym (take-set-lt s.unused s'.values (1 + v) 0 named);
      bases = rw a.bases;
      ends = rw a.ends;
      unused = a.unused;
    }
register_alike {s} {s'} v (suc n) ws named all room a =
    let u = s.unused in
    let stored : (l : Words) → length (set (sets l u ws) (1 + v) u) ≡ length l = λ l. length-set (sets l u ws) (1 + v) u ∙ length-sets l u ws in
    rw (← a.unused)
    (record {
      same_length = stored s.values ∙ a.same_length ∙ sym (stored s'.values);
      values = front_register s.values u ws (1 + v) u named all room ∙ ap (λ (l : Words). set (l ++ ws) (1 + v) u) a.values
          ∙ sym (front_register s'.values u ws (1 + v) u named all (omega (arith, a.same_length)));
      bases = rw a.bases;
      ends = rw a.ends;
      unused = refl;
    })

pub registers_alike : {t l : Words} {len : ℕ} {s s' : State} → Listed t l len → s.unused ≡ 1 + count t variables → Inv (count t variables) len s' → Alike s s'
    → (i : ℕ) → i ≤ register_count l → Alike (registers_below l i s) (registers_below l i s')
unfolding registers_below register_start sum_below
registers_alike ok first inv a zero h = a
registers_alike {l = l} {s = s} ok first inv a (suc i) h =
    let before = registers_alike ok first inv a i (omega arith) in
    let p = register_place l i in
    let n = register_length l i in
    let inside = register_inside ok.extent i h in
    let used = registers_unused l i s in
    register_alike (register_variable l i) n (register_words l i) (omega (arith, ok.named i h, used)) (length-take-le n (drop (p + 2) l) (omega (arith, length-drop (p + 2) l)))
    (omega (arith, used, ok.room i h, before.same_length, (registers_inv ok (sym a.unused ∙ first) inv i (omega arith)).values_length)) before

-- ---- the registers in turn

pub none_set : (l vs bs es : Words) (u : ℕ) → RegistersSet l 0 vs bs es u vs bs es u
unfolding registers_below
none_set l vs bs es u = record { holds = record { values = refl; bases = refl; ends = refl; unused = refl } }

module _ {l vs₀ bs₀ es₀ vs bs es : Words} {i first u : ℕ} (before : RegistersSet l i vs₀ bs₀ es₀ first vs bs es u) where
  pub one_more_set : {p u' : ℕ} {vs' bs' es' : Words} → p ≡ register_place l i → RegisterSet l p vs bs es u vs' bs' es' u' → RegistersSet l (i + 1) vs₀ bs₀ es₀ first vs' bs' es' u'
  unfolding registers_below
  one_more_set {p} at new =
      let m = new.holds in
      let k = same_register _ (word l p) (word l (p + 1)) (take (word l (p + 1)) (drop (p + 2) l)) before.holds in
      record {
        holds = rw (add-one i, ← at) (record { values = m.values ∙ k.values; bases = m.bases ∙ k.bases; ends = m.ends ∙ k.ends; unused = m.unused ∙ k.unused });
      }

  pub all_set : {n : ℕ} → i ≡ n → RegistersSet l n vs₀ bs₀ es₀ first vs bs es u
  all_set e = rw e at before

  -- The next register fits.
  pub next_fits : {p : ℕ} → AllFit l first vs₀ bs₀ es₀ → i < register_count l → p ≡ register_place l i → length vs ≡ length vs₀ → length bs ≡ length bs₀ → length es ≡ length es₀ → Fits l p u vs bs es
  unfolding register_start sum_below
  next_fits x less at hv hb he =
      let end : (registers_below l i (memory vs₀ bs₀ es₀ first)).unused ≡ first + sum_below i (λ j. register_length l j) = registers_unused l i (memory vs₀ bs₀ es₀ first) in
      let a = registers_alike x.list x.first x.inv x.alike i (omega arith) in
      rw at
      (record {
        inside = register_inside x.list.extent i less;
        named = omega (arith, x.list.named i less, x.inv.low, x.inv.high);
        room = omega (arith, before.holds.unused, end, x.list.room i less, x.first);
        most = omega (arith, x.most);
        bases_length = omega (arith, ap length x.alike.bases, x.inv.bases_length);
        ends_length = omega (arith, ap length x.alike.ends, x.inv.ends_length);
        clear = rw (before.holds.bases ∙ a.bases, before.holds.ends ∙ a.ends, before.holds.unused ∙ a.unused)
            (λ w h. let k = (registers_inv x.list (sym x.alike.unused ∙ x.first) x.inv i (omega arith)).clear w h in (k.1, k.2));
      })
