pub mod UntoldCalls
