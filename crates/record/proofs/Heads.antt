-- The first 32 bits of a record, and the record that has them.
use Rattle.std.proofs.Common.{◌≡◌, ℕ, ◌/◌, ◌%◌, ◌^◌, ◌<◌, arith}
use native.Mathlib.Nat.{div-div-eq-div-mul}
use Rattle.record.specs.Heads.{head_of, with_head}
use Rattle.record.specs.declared.Record.{Record}

-- the fields of a record that keeps the layout fit their bits
pub record Fits (r : Record) : Type 0 where
  pub kind : r.kind < 16
  pub signer : r.signer < 16
  pub view : r.view < 64
  pub last : r.last < 64
  pub slot : r.slot < 128
  pub verdict : r.verdict < 2

pub head_below : (r : Record) → Fits r → head_of r < 2 ^ 32
head_below r b = omega arith

pub head_even : (r : Record) → head_of r % 16 ≡ 0
head_even r = omega arith

pub head_returns : (r : Record) → Fits r → with_head (head_of r) r.word r.result ≡ r
head_returns r b =
    let h : ℕ = head_of r in
    let k : h / 2 ^ 28 ≡ r.kind = omega arith in
    let s : h / 2 ^ 24 % 16 ≡ r.signer = omega arith in
    let v : h / 2 ^ 18 % 64 ≡ r.view = omega arith in
    let l : h / 2 ^ 12 % 64 ≡ r.last = omega arith in
    let t : h / 2 ^ 5 % 128 ≡ r.slot = omega arith in
    let d : h / 2 ^ 4 % 2 ≡ r.verdict = omega arith in
    let e : with_head h r.word r.result ≡ record { kind = r.kind; signer = r.signer; view = r.view; last = r.last; slot = r.slot; verdict = r.verdict; word = r.word; result = r.result } = cc in
    e

pub head_kept : (h w a : ℕ) → h % 16 ≡ 0 → head_of (with_head h w a) ≡ h
head_kept h w a z =
    omega
    (arith, div-div-eq-div-mul h 16 2, div-div-eq-div-mul h 32 128, div-div-eq-div-mul h 4096 64, div-div-eq-div-mul h 262144 64, div-div-eq-div-mul h 16777216 16)
