-- What a granted open says of its bench: how many foreign replicas it may have, and that it has no more.
use Rattle.std.proofs.Common.{◌≡◌, ℕ, zero, suc, ◌+◌, ◌/◌, ◌%◌, ◌<◌, ◌≤◌, Bool, true, cond, eqb, count_ones, Ok, ◌∙◌, arith, rules}
use lib.Count.{ones_step}
use Rattle.std.proofs.lemmas.Bool.Decides.{nat_tests}
use Rattle.quorum.specs.Quorums.{count}
use Rattle.replica.specs.Words.{bit}
use Rattle.replica.proofs.Words.{bit_zero, bit_suc}
use Rattle.protocol.specs.Setup.{Setup, replicas}
use Rattle.protocol.specs.Open.{open_grounds}
use Rattle.protocol.proofs.Counting.{Few, count_ext, indicator_ext}

-- a count with the lowest number first
count_lowest : (n : ℕ) (p : ℕ → Bool) → count (suc n) p ≡ cond (p 0) 1 0 + count n (λ i. p (suc i))
unfolding count
count_lowest zero p = omega arith
count_lowest (suc n) p = omega (arith, count_lowest n p)

indicator_digit : (d : ℕ) → d < 2 → cond (eqb d 1) 1 0 ≡ d
indicator_digit d h = grind (arith, nat_tests)

indicator_lowest : (w : ℕ) → cond (bit w 0) 1 0 ≡ w % 2
indicator_lowest w = indicator_ext (bit w 0) (eqb (w % 2) 1) (bit_zero w) ∙ indicator_digit (w % 2) (omega arith)

-- at most as many numbers have their bit in a word as it has bits set
count_bits : (n w : ℕ) → count n (bit w) ≤ count_ones w
unfolding count
count_bits zero w = omega arith
count_bits (suc n) w =
    omega (
      arith,
      count_lowest n (bit w),
      indicator_lowest w,
      count_ext n (λ i. bit w (suc i)) (bit (w / 2)) (λ i h. bit_suc w i),
      count_bits n (w / 2),
      ones_step w,
    )

module _ (u : Setup) (e : open_grounds u true ≡ Ok tt) where
  pub bound_of_open : u.f ≤ 5
  bound_of_open = search rules

  pub few_of_open : Few u
  few_of_open = let ones : count_ones u.mask ≤ u.f = search rules in omega (arith, count_bits (replicas u) u.mask)
