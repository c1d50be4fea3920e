-- Document 02, slip 10: any machine with a penalty on each arc and a ceiling for their sum.
use Rattle.std.specs.Prelude.{ℕ, ◌+◌, ◌&&◌, eqb, leb}
use Rattle.machine.specs.Machine.{Machine, Path, start, more, bind, somewhen}

-- "the sum of penalties on its path, 0 at the bottom"
abbrev pub sum_of : (ℕ → ℕ) → Path → ℕ
sum_of penalty (start i) = 0
sum_of penalty (more p n) = sum_of penalty p + penalty n

-- the same machine, where a datum carries that sum: "An arc that would lift the sum over the ceiling does not fit."
abbrev pub ceiled : Machine → (ℕ → ℕ) → ℕ → Machine
ceiled M penalty ceiling =
    record {
      D = M.D × ℕ;
      initials = M.initials;
      first = M.first;
      arity = M.arity;
      target = M.target;
      terminal = M.terminal;
      d₀ = (M.d₀, 0);
      follow = λ n d. bind (M.follow n d.0) (λ e. somewhen (leb (d.1 + penalty n) ceiling) (e, d.1 + penalty n));
      writes = λ n d. M.writes n d.0;
      done = λ d. M.done d.0;
      same = λ d e. M.same d.0 e.0 && eqb d.1 e.1;
      limit = M.limit;
    }
