mod Routes
