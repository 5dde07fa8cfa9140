-- The memory that registers leave without bounds, register by register.
use Prim.Native.Nat.{ℕ, zero, suc, ◌+◌, ◌<◌}
use mathlib.Core.Path.{◌≡◌, refl, ap, ◌∙◌}
use mathlib.Core.List.{[]}
use native.Mathlib.Omega.{arith}
use native.Mathlib.Numerals.{add-one}
use lib.ListN.{length, take, drop, set}
use lib.Seq.{sets}
use Rattle.semantics.specs.Words.{Words, word, sum_below}
use Rattle.semantics.specs.Registers.{register_count, register_place, register_length, register_start}
use Rattle.semantics.specs.Bare as Bare
use Rattle.semantics.proofs.Registers.{register_inside, registers_unused}
use Rattle.semantics.proofs.Agreement.{registers_bared}
use Rattle.registers.specs.Blocks.{memory, bare_memory, RegisterPlaced, RegistersPlaced, Placeable, AllPlaceable}

-- ---- one register

module _ {l : Words} {p u w : ℕ} {vs : Words} (named : w ≡ word l p) where
  pub no_words_placed : word l (p + 1) ≡ 0 → RegisterPlaced l p vs u (set vs (1 + w) 0) u
  no_words_placed none = record { is = rw (named, none) }

  pub some_words_placed : {a k : ℕ} {vs₁ : Words} → (word l (p + 1) ≡ 0 → ⊥) → vs₁ ≡ sets vs a (take k (drop (p + 2) l)) → a ≡ u → k ≡ word l (p + 1)
      → RegisterPlaced l p vs u (set vs₁ (1 + w) u) (u + word l (p + 1))
  some_words_placed some h ea ek = record { is = rw (named, h, ea, ek) (go (word l (p + 1)) some) }
    where
      go : (n : ℕ) → (n ≡ 0 → ⊥)
          → bare_memory (set (sets vs u (take n (drop (p + 2) l))) (1 + word l p) u) (u + n) ≡ Bare.with_register (word l p) n (take n (drop (p + 2) l)) (bare_memory vs u)
      go zero q = absurd (q refl)
      go (suc n) q = refl

-- ---- the registers in turn

pub none_placed : (l vs : Words) (u : ℕ) → RegistersPlaced l 0 vs u vs u
unfolding Bare.registers_below
none_placed l vs u = record { is = refl }

-- The first unused word after registers.
placed_unused : {l vs₀ vs : Words} {i first u : ℕ} → RegistersPlaced l i vs₀ first vs u → u ≡ first + sum_below i (λ j. register_length l j)
placed_unused {l} {vs₀} {i = i} {first = first} before =
    ap (λ s. s.unused) (before.is ∙ registers_bared l i (memory vs₀ [] [] first)) ∙ registers_unused l i (memory vs₀ [] [] first)

module _ {l vs₀ vs : Words} {i first u : ℕ} (before : RegistersPlaced l i vs₀ first vs u) where
  pub one_more_placed : {p u' : ℕ} {vs' : Words} → p ≡ register_place l i → RegisterPlaced l p vs u vs' u' → RegistersPlaced l (i + 1) vs₀ first vs' u'
  unfolding Bare.registers_below
  one_more_placed at new = record { is = rw (add-one i, ← at, ← before.is) new.is }

  pub all_placed : {n : ℕ} → i ≡ n → RegistersPlaced l n vs₀ first vs u
  all_placed e = rw e at before

  -- The next register fits.
  pub next_placeable : {p : ℕ} → AllPlaceable l first vs₀ → i < register_count l → p ≡ register_place l i → length vs ≡ length vs₀ → Placeable l p u vs
  unfolding register_start sum_below
  next_placeable x less at long =
      rw at
      (record {
        inside = register_inside x.list.extent i less;
        named = omega (arith, x.list.named i less, x.room);
        room = omega (arith, placed_unused before, x.list.room i less, x.first);
        most = omega (arith, x.most);
      })
