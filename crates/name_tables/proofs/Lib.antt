pub mod TypeTable
pub mod SpotLemmas
pub mod OwnedLemmas
pub mod ScopeTable
pub mod ParamScopes
