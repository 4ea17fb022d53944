-- What the contracts cite of refusals.
pub mod Numbers
