-- How cycles are paced: whole numbers of bytes, and of words of 8 bytes. A quotient is rounded down, but that of a debt up.
use Rattle.std.specs.Prelude.{◌≡◌, ℕ, ◌+◌, ◌-◌, ◌*◌, ◌/◌, ◌^◌, ◌≤◌, ◌==◌, if◌then◌else◌, max, Option, Some, None, IfSome}
use Rattle.std.specs.Int.{div_ceil}
use Rattle.gh_pacer.specs.declared.pacing.TheConstants.{MOST_GOAL, NEVER}

-- the bytes of the roots: each global is a word, and each goroutine has 16 registers
abbrev pub roots : (globals goroutines : ℕ) → ℕ
roots globals goroutines = (globals + 16 * goroutines) * 8

-- the bytes that the heap is to have at most, if there is such a goal: what was live, and of it and of the roots so much percent more
abbrev pub goal : (live roots gogc minheap : ℕ) → Option ℕ
goal live roots gogc minheap = if gogc == 0 then None else Some (max minheap (live + (live + roots) * gogc / 100))

-- a goal that comes of numbers in their limits
abbrev pub FitsGoal : Option ℕ → Type 0
FitsGoal goal = IfSome goal (λ bytes. bytes ≤ MOST_GOAL)

-- the bytes of the heap at which a cycle is asked for: seven tenths of the way from what was live to the goal
abbrev pub trigger : (live : ℕ) → (goal : Option ℕ) → ℕ
trigger live None = 2 ^ 64 - 1
trigger live (Some bytes) = live + 7 * (bytes - live) / 10

-- Where the bytes lie at which a cycle is asked for: between what was live and the goal, if the goal is not below what was live, and else at what was live. Without a goal no heap reaches them.
abbrev pub LiesBetween : (live : ℕ) → (goal : Option ℕ) → (bytes : ℕ) → Type 0
LiesBetween live None bytes = bytes ≡ NEVER
LiesBetween live (Some most) bytes = (live ≤ most → (live ≤ bytes) × (bytes ≤ most)) × (most ≤ live → bytes ≡ live)

-- the words that are to be scanned in a cycle
abbrev pub work : (live roots : ℕ) → (goal : Option ℕ) → ℕ
work live roots None = 0
work live roots (Some bytes) = (live + roots) / 8

-- the bytes that may be allocated in a cycle, one at the least
abbrev pub slack : (heap : ℕ) → (goal : Option ℕ) → ℕ
slack heap None = 1
slack heap (Some bytes) = max 1 (bytes - heap)

-- the words that are to be scanned for so many bytes: their share of the work
abbrev pub debt : (bytes work slack : ℕ) → ℕ
debt bytes work slack = div_ceil (bytes * work) slack
